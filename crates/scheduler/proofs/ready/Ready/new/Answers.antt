use Rattle.std.proofs.Common.{ℕ, List, [], ◌∷◌, ◌++◌, ap, ◌∙◌, sym, subst, arith}
use Rattle.scheduler.specs.Entries.{IsKept}
use Rattle.scheduler.proofs.Copies.{starts}
use Rattle.scheduler.proofs.ready.Ready.new.Goals as goal

pub invariant_of-result : goal.invariant_of-result
invariant_of-result c =
    let set = c.all_harts-set.result in
    let order = c.push.ensures.items ∙ ap (λ (es : List (ℕ × ℕ)). es ++ (1, set) ∷ []) c.new-order.ensures in
    subst (λ (held : List (ℕ × ℕ)). IsKept c.push.new.self.items held) (sym c.new.ensures)
    (subst (λ (es : List (ℕ × ℕ)). IsKept es ((1, set) ∷ [])) (sym order) (starts set (omega arith)))
