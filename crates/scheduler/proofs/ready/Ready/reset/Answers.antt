use Rattle.std.proofs.Common.{ℕ, List, [], ◌∷◌, ◌++◌, ap, ◌∙◌, sym, subst, arith}
use Rattle.scheduler.specs.Entries.{IsKept}
use Rattle.scheduler.proofs.Copies.{starts}
use Rattle.scheduler.proofs.ready.Ready.reset.Goals as goal

pub invariant_of-self : goal.invariant_of-self
invariant_of-self c =
    let set = c.all_harts-set.result in
    let order = c.push.ensures.items ∙ ap (λ (es : List (ℕ × ℕ)). es ++ (1, set) ∷ []) c.clear.ensures in
    subst (λ (held : List (ℕ × ℕ)). IsKept c.push.new.self.items held) (sym c.reset.ensures)
    (subst (λ (es : List (ℕ × ℕ)). IsKept es ((1, set) ∷ [])) (sym order) (starts set (omega arith)))
