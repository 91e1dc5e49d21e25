use Rattle.std.proofs.Common.{◌≡◌, ◌∷◌, [], ◌++◌, ◌∙◌, None, true, is_ok, arith}
use Rattle.std.specs.Vec.{vec_capacity}
use Rattle.page_map.specs.Layout.{empty_leaf}
use Rattle.page_map.proofs.Rows.{new-rows}
use Rattle.page_map.proofs.Tables.{fresh-leaf, new-filled, new-places}
use Rattle.page_map.proofs.table.PageTable.clear.Goals as goal

-- the leaf without entries is the only one
one : (c : goal.After-self-1) → c.push.new.self.items ≡ empty_leaf ∷ []
one c =
    let room = c.self.invariant.0.room in
    let ok : is_ok c.push.result ≡ true = c.push.ensures.succeeds (omega (arith, c.clear-2.ensures.len, c.clear-2.ensures.capacity)) in
    rw ok at c.push.ensures.items ∙ (λ i. c.clear-2.ensures.items i ++ c.empty_leaf.ensures i ∷ [])

pub invariant_of-self : goal.invariant_of-self
invariant_of-self c =
    let was = c.self.invariant.0 in (
      new-rows None empty_leaf 131072 c.clear.new.self c.push.new.self.items (vec_capacity c.push.new.self) fresh-leaf
          c.clear.ensures.length c.clear.ensures.empty (one c) (omega (arith, was.room, c.clear-2.ensures.capacity, c.push.ensures.capacity)),
      new-filled _,
    )

pub returns : goal.returns
returns c = new-places c.clear.new.self c.push.new.self.items c.clear.ensures.empty (one c)
