use Rattle.std.proofs.Common.{ℕ, List, rules, ap, sym, subst, ◌∙◌}
use Rattle.std.specs.List.{position}
use Rattle.std.specs.List.Sorted.{IsStrictlyIncreasing}
use Rattle.std.proofs.lemmas.List.Sorted.{answers_always}
use Rattle.mach_types.specs.Kernel.Scheduling.{is_of}
use Rattle.scheduler.specs.Entries.{numbers}
use Rattle.mach_types.proofs.Places.{searched_place}
use Rattle.scheduler.proofs.affinities.Affinities.place_of.Goals as goal

-- the closure gives an entry's number
pub returns-then-self : goal.returns-then-self
returns-then-self c =
    let facts = c.binary_search_by_key.ensures in
    let by_number = facts.position (λ (entry : ℕ × ℕ). entry.0) (answers_always _ _ _ (λ f a r g called. search rules)) in
    let rising = subst (λ (es : List (ℕ × ℕ)). IsStrictlyIncreasing (numbers es)) (sym c.deref.ensures.0) (c.self.invariant c.if-self.true) in
    c.ok.ensures.value
    ∙ searched_place (λ (entry : ℕ × ℕ). entry.0) c.deref.result.now rising c.args.tid c.binary_search_by_key.result facts.bound by_number
    ∙ ap (position (is_of c.args.tid)) (c.deref.ensures.0 ∙ c.self.view_is)
