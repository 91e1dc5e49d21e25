use Rattle.std.proofs.Common.{◌≡◌, ◌/◌, ◌%◌, ◌∙◌, List, [], set, get_or, ap, arith, ℕ}
use Rattle.std.specs.Vec.{vec_capacity}
use Rattle.page_map.specs.Layout.{empty_row}
use Rattle.page_map.proofs.Directories.{fresh-zeros, numbers-set}
use Rattle.page_map.proofs.Rows.{HasRow, has-own, has-room, read-at, written-entry, written-rows}
use Rattle.page_map.proofs.directory.Directory.set.Goals as goal

-- the row of the chunk's group, and what is written to it
own : (c : goal.After-self-1) → HasRow 0 256 c.self.inside.names.items c.self.inside.rows.items (c.args.chunk / 512)
    c.own_row-row.new.names.items c.own_row-row.new.rows.items c.own_row-row.result
own c =
    has-own 0 empty_row fresh-zeros 256 c.self.inside.names.items c.self.inside.rows.items (vec_capacity c.self.inside.rows) c.self.invariant
    (c.args.chunk / 512) c.own_row-row.result c.own_row-row.new.names.items c.own_row-row.new.rows.items (omega arith)
    c.own_row-row.ensures.names c.own_row-row.ensures.rows c.own_row-row.ensures.row

written : (c : goal.After-self-1) →
    set c.own_row-row.new.rows.items c.own_row-row.result (set c.index_mut.result.now (c.args.chunk % 512) c.args.number)
    ≡ set c.own_row-row.new.rows.items c.own_row-row.result
    (set (get_or c.own_row-row.new.rows.items c.own_row-row.result []) (c.args.chunk % 512) c.args.number)
written c =
    let has = own c in
    ap (λ (l : List ℕ). set c.own_row-row.new.rows.items c.own_row-row.result (set l (c.args.chunk % 512) c.args.number))
    (read-at c.own_row-row.new.rows.items c.own_row-row.result c.index_mut.result.now [] c.index_mut.ensures.value has.within)

pub own_row-row-requires-clause-room : goal.own_row-row-requires-clause-room
own_row-row-requires-clause-room c bare =
    let was = c.self.inside in
    let kept = c.self.invariant in
    let room = has-room 0 256 was.names.items was.rows.items (vec_capacity was.rows) (c.args.chunk / 512) kept (omega arith) bare in
    let enough = kept.room in
    omega arith

pub own_row-row-requires-clause-numbers : goal.own_row-row-requires-clause-numbers
own_row-row-requires-clause-numbers c bare =
    let was = c.self.inside in
    let kept = c.self.invariant in
    let room = has-room 0 256 was.names.items was.rows.items (vec_capacity was.rows) (c.args.chunk / 512) kept (omega arith) bare in
    omega arith

pub invariant_of-self : goal.invariant_of-self
invariant_of-self c =
    let was = c.self.inside in
    written-rows 0 256 was.names.items c.own_row-row.new.names.items was.rows.items c.own_row-row.new.rows.items
    (set c.own_row-row.new.rows.items c.own_row-row.result (set c.index_mut.result.now (c.args.chunk % 512) c.args.number))
    c.args.chunk c.own_row-row.result c.args.number (own c) (written c) (vec_capacity was.rows) c.self.invariant (omega arith)
    (vec_capacity c.own_row-row.new.rows) c.own_row-row.ensures.capacity

pub returns : goal.returns
returns c =
    let was = c.self.inside in
    numbers-set was.names.items c.own_row-row.new.names.items was.rows.items
    (set c.own_row-row.new.rows.items c.own_row-row.result (set c.index_mut.result.now (c.args.chunk % 512) c.args.number))
    c.args.chunk c.args.number c.requires
    (λ k lt. written-entry 0 256 was.names.items c.own_row-row.new.names.items was.rows.items c.own_row-row.new.rows.items
    (set c.own_row-row.new.rows.items c.own_row-row.result (set c.index_mut.result.now (c.args.chunk % 512) c.args.number))
    c.args.chunk c.own_row-row.result c.args.number (own c) (written c) (vec_capacity was.rows) c.self.invariant (omega arith) k (omega arith))
    ∙ ap (λ (d : List ℕ). set d c.args.chunk c.args.number) c.self.view_is
