-- Each choice that has to be tried is in the list.
use Rattle.std.proofs.Common.{◌≡◌, ℕ, Bool, true, false, ◌||◌, eqb, List, [], ◌∷◌, map, Contains, refl, ap, ◌∙◌, arith}
use Rattle.std.specs.List.{list_any}
use Rattle.std.proofs.lemmas.Bool.{eqb-true}
use Rattle.std.proofs.lemmas.List.Elements.{Contains-append_left, Contains-append_right}
use Rattle.mach_types.specs.declared.events.Choice.{Choice}
use Rattle.mach_types.specs.declared.events.Choice.TheVariants as asked
use Rattle.mach_types.specs.Kernel.Scheduling.{Scheduling}
use Rattle.mach_types.specs.Kernel.Threads.{Threads}
use Rattle.block_model.specs.Tables.{IsTables}
use Rattle.block_model.proofs.Laws.{ready_listed}
use Rattle.same_places.specs.Choices.{all_choices, fixed_choices, run_of}
use Rattle.same_places.specs.Searched.{IsTried}

at_first : (x y : Choice) (xs : List Choice) → y ≡ x → Contains (y ∷ xs) x
at_first x y xs same = (0, omega arith, same)

past_first : (x y : Choice) (xs : List Choice) → Contains xs x → Contains (y ∷ xs) x
past_first x y xs there = Contains-append_right (y ∷ []) xs x there

listed : (t : ℕ) (order : List ℕ) → list_any (λ u. eqb u t) order ≡ true → Contains (map run_of order) (run_of t)
listed t [] any = let no : ⊥ = cc in absurd no
listed t (u ∷ us) any = go (eqb u t) refl any (listed t us)
  where
    go : (b : Bool) → eqb u t ≡ b → (b || list_any (λ z. eqb z t) us) ≡ true → (list_any (λ z. eqb z t) us ≡ true → Contains (map run_of us) (run_of t)) → Contains (map run_of (u ∷ us)) (run_of t)
    go true is any more = at_first (run_of t) (run_of u) (map run_of us) (ap run_of (eqb-true u t is))
    go false is any more = past_first (run_of t) (run_of u) (map run_of us) (more any)

fixed : (order : List ℕ) (c : Choice) → Contains fixed_choices c → Contains (all_choices order) c
fixed order c there = Contains-append_left fixed_choices (map run_of order) c there

pub tried_listed : (harts : ℕ) (ts : Threads) (sc : Scheduling) (c : Choice) → IsTables harts ts sc → IsTried ts c → Contains (all_choices sc.order) c
tried_listed harts ts sc asked.Exec tables tried = fixed sc.order asked.Exec (0, omega arith, refl)
tried_listed harts ts sc asked.Drain tables tried = fixed sc.order asked.Drain (1, omega arith, refl)
tried_listed harts ts sc asked.Take tables tried = fixed sc.order asked.Take (2, omega arith, refl)
tried_listed harts ts sc asked.Done tables tried = fixed sc.order asked.Done (3, omega arith, refl)
tried_listed harts ts sc asked.Preempt tables tried = fixed sc.order asked.Preempt (4, omega arith, refl)
tried_listed harts ts sc asked.Signal tables tried = fixed sc.order asked.Signal (5, omega arith, refl)
tried_listed harts ts sc (asked.Run t) tables tried =
    Contains-append_right fixed_choices (map run_of sc.order) (asked.Run t) (listed t.0 sc.order (ready_listed harts t.0 ts sc tables ∙ tried))
