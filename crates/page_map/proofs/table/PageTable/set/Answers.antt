use Rattle.std.proofs.Common.{◌≡◌, ◌/◌, ◌%◌, ◌∙◌, Option, None, List, [], cond, nat_eq, set, get_or, sym, subst, ap, arith, ℕ}
use Rattle.std.specs.Vec.{vec_capacity}
use Rattle.page_map.specs.Layout.{IsFilled, empty_leaf}
use Rattle.page_map.specs.Table.{Table, place_in}
use Rattle.page_map.proofs.Rows.{HasRow, has-own, has-room, read-at, written-rows}
use Rattle.page_map.proofs.Tables.{filled-set, fresh-leaf, inserted-places}
use Rattle.page_map.proofs.table.PageTable.set.Goals as goal

-- the leaf of the page's chunk, and what is written to it
own : (c : goal.After-self-2-1) → HasRow None 131072 c.self.inside.directory c.self.inside.leaves.items (c.args.page / 512)
    c.own_leaf-leaf.new.directory c.own_leaf-leaf.new.leaves.items c.own_leaf-leaf.result
own c =
    has-own None empty_leaf fresh-leaf 131072 c.self.inside.directory c.self.inside.leaves.items (vec_capacity c.self.inside.leaves) c.self.invariant.0
    (c.args.page / 512) c.own_leaf-leaf.result c.own_leaf-leaf.new.directory c.own_leaf-leaf.new.leaves.items (omega arith)
    c.own_leaf-leaf.ensures.directory c.own_leaf-leaf.ensures.leaves c.own_leaf-leaf.ensures.leaf

written : (c : goal.After-self-2-1) →
    set c.own_leaf-leaf.new.leaves.items c.own_leaf-leaf.result (set c.index_mut.result.now (c.args.page % 512) c.args.place)
    ≡ set c.own_leaf-leaf.new.leaves.items c.own_leaf-leaf.result
    (set (get_or c.own_leaf-leaf.new.leaves.items c.own_leaf-leaf.result []) (c.args.page % 512) c.args.place)
written c =
    let has = own c in
    ap (λ (l : List (Option ℕ)). set c.own_leaf-leaf.new.leaves.items c.own_leaf-leaf.result (set l (c.args.page % 512) c.args.place))
    (read-at c.own_leaf-leaf.new.leaves.items c.own_leaf-leaf.result c.index_mut.result.now [] c.index_mut.ensures.value has.within)

-- the place of each page afterwards
places : (c : goal.After-self-2-1) (n : ℕ)
    → let after : List (List (Option ℕ)) =
    set c.own_leaf-leaf.new.leaves.items c.own_leaf-leaf.result (set c.index_mut.result.now (c.args.page % 512) c.args.place) in
    place_in (record { directory = c.own_leaf-leaf.new.directory; leaves = after }) n
    ≡ cond (nat_eq n c.args.page) c.args.place (place_in (record { directory = c.self.inside.directory; leaves = c.self.inside.leaves.items }) n)
places c =
    let was = c.self.inside in
    inserted-places was.directory c.own_leaf-leaf.new.directory was.leaves.items c.own_leaf-leaf.new.leaves.items
    (set c.own_leaf-leaf.new.leaves.items c.own_leaf-leaf.result (set c.index_mut.result.now (c.args.page % 512) c.args.place))
    (vec_capacity was.leaves) c.args.page c.own_leaf-leaf.result c.args.place (own c) (written c) c.self.invariant.0 c.requires

pub own_leaf-leaf-requires-clause-room : goal.own_leaf-leaf-requires-clause-room
own_leaf-leaf-requires-clause-room c bare =
    let was = c.self.inside in
    let kept = c.self.invariant.0 in
    let room = has-room None 131072 was.directory was.leaves.items (vec_capacity was.leaves) (c.args.page / 512) kept (omega arith) bare in
    let enough = kept.room in
    omega arith

pub own_leaf-leaf-requires-clause-numbers : goal.own_leaf-leaf-requires-clause-numbers
own_leaf-leaf-requires-clause-numbers c bare =
    let was = c.self.inside in
    let kept = c.self.invariant.0 in
    let room = has-room None 131072 was.directory was.leaves.items (vec_capacity was.leaves) (c.args.page / 512) kept (omega arith) bare in
    omega arith

pub invariant_of-self : goal.invariant_of-self
invariant_of-self c =
    let was = c.self.inside in (
      written-rows None 131072 was.directory c.own_leaf-leaf.new.directory was.leaves.items c.own_leaf-leaf.new.leaves.items
          (set c.own_leaf-leaf.new.leaves.items c.own_leaf-leaf.result (set c.index_mut.result.now (c.args.page % 512) c.args.place))
          c.args.page c.own_leaf-leaf.result c.args.place (own c) (written c) (vec_capacity was.leaves) c.self.invariant.0 (omega arith)
          (vec_capacity c.own_leaf-leaf.new.leaves) c.own_leaf-leaf.ensures.capacity,
      subst (IsFilled _) (sym c.filled_with-self-inside.ensures)
          (filled-set (record { directory = was.directory; leaves = was.leaves.items }) _ was.filled_to c.args.page c.args.place
          c.self.invariant.1 (places c)),
    )

pub returns : goal.returns
returns c n =
    places c n ∙ ap (λ (t : Table). let q : Option ℕ = cond (nat_eq n c.args.page) c.args.place (place_in t n) in q) c.self.view_is
