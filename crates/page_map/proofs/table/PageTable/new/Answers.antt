use Rattle.std.proofs.Common.{◌≡◌, ◌∷◌, [], ◌++◌, None, ◌∙◌, arith}
use Rattle.std.specs.Vec.{vec_capacity}
use Rattle.page_map.specs.Layout.{empty_leaf}
use Rattle.page_map.proofs.Rows.{new-rows}
use Rattle.page_map.proofs.Tables.{fresh-leaf, new-filled, new-places}
use Rattle.page_map.proofs.table.PageTable.new.Goals as goal

pub invariant_of-result : goal.invariant_of-result
invariant_of-result c =
    let one : c.push.new.self.items ≡ empty_leaf ∷ [] = c.in_ok-push.ensures.items ∙ (λ i. c.in_ok-leaves.ensures.items i ++ c.empty_leaf.ensures i ∷ []) in (
      new-rows None empty_leaf 131072 c.in_ok-directory.directory c.push.new.self.items (vec_capacity c.push.new.self) fresh-leaf
          c.in_ok-directory.ensures.length c.in_ok-directory.ensures.empty one (omega (arith, c.in_ok-leaves.ensures.capacity, c.in_ok-push.ensures.capacity)),
      new-filled _,
    )

pub returns : goal.returns
returns c =
    let one : c.push.new.self.items ≡ empty_leaf ∷ [] = c.in_ok-push.ensures.items ∙ (λ i. c.in_ok-leaves.ensures.items i ++ c.empty_leaf.ensures i ∷ []) in
    record { empty = new-places c.in_ok-directory.directory c.push.new.self.items c.in_ok-directory.ensures.empty one }
