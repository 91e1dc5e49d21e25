use Rattle.std.proofs.Common.{◌≡◌, ◌∷◌, [], ◌++◌, ◌∙◌, arith}
use Rattle.std.specs.Vec.{vec_capacity}
use Rattle.page_map.specs.Layout.{empty_row}
use Rattle.page_map.proofs.Directories.{fresh-zeros, numbers-length, numbers-zero}
use Rattle.page_map.proofs.Rows.{new-entry, new-rows}
use Rattle.page_map.proofs.directory.Directory.new.Goals as goal

pub invariant_of-result : goal.invariant_of-result
invariant_of-result c =
    let one : c.push.new.self.items ≡ empty_row ∷ [] = c.in_ok-push.ensures.items ∙ (λ i. c.in_ok-rows.ensures.items i ++ c.empty_row.ensures i ∷ []) in
    new-rows 0 empty_row 256 c.in_ok-names.names.items c.push.new.self.items (vec_capacity c.push.new.self) fresh-zeros
    c.in_ok-names.ensures.length c.in_ok-names.ensures.empty one (omega (arith, c.in_ok-rows.ensures.capacity, c.in_ok-push.ensures.capacity))

pub returns-clause-length : goal.returns-clause-length
returns-clause-length c = numbers-length c.in_ok-names.names.items c.push.new.self.items

pub returns-clause-empty : goal.returns-clause-empty
returns-clause-empty c =
    let one : c.push.new.self.items ≡ empty_row ∷ [] = c.in_ok-push.ensures.items ∙ (λ i. c.in_ok-rows.ensures.items i ++ c.empty_row.ensures i ∷ []) in
    numbers-zero c.in_ok-names.names.items c.push.new.self.items
    (new-entry 0 empty_row c.in_ok-names.names.items c.push.new.self.items fresh-zeros c.in_ok-names.ensures.empty one)
