use Rattle.std.proofs.Common.{◌≡◌, ◌∷◌, [], ◌++◌, ◌∙◌, true, is_ok, arith}
use Rattle.std.specs.Vec.{vec_capacity}
use Rattle.page_map.specs.Layout.{empty_row}
use Rattle.page_map.proofs.Directories.{fresh-zeros, numbers-length, numbers-zero}
use Rattle.page_map.proofs.Rows.{new-entry, new-rows}
use Rattle.page_map.proofs.directory.Directory.clear.Goals as goal

-- the row of zeros is the only one
one : (c : goal.After-push) → c.push.new.self.items ≡ empty_row ∷ []
one c =
    let room = c.self.invariant.room in
    let ok : is_ok c.push.result ≡ true = c.push.ensures.succeeds (omega (arith, c.clear.ensures.len, c.clear.ensures.capacity)) in
    rw ok at c.push.ensures.items ∙ (λ i. c.clear.ensures.items i ++ c.empty_row.ensures i ∷ [])

pub invariant_of-self : goal.invariant_of-self
invariant_of-self c =
    let was = c.self.invariant in
    new-rows 0 empty_row 256 c.forget_rows.new.names.items c.push.new.self.items (vec_capacity c.push.new.self) fresh-zeros
    (c.forget_rows.ensures.length ∙ was.chunks) c.forget_rows.ensures.empty (one c)
    (omega (arith, was.room, c.clear.ensures.capacity, c.push.ensures.capacity))

pub returns-clause-length : goal.returns-clause-length
returns-clause-length c = numbers-length c.forget_rows.new.names.items c.push.new.self.items

pub returns-clause-empty : goal.returns-clause-empty
returns-clause-empty c =
    numbers-zero c.forget_rows.new.names.items c.push.new.self.items
    (new-entry 0 empty_row c.forget_rows.new.names.items c.push.new.self.items fresh-zeros c.forget_rows.ensures.empty (one c))
