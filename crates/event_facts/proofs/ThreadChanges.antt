-- What an event made of threads: by the states that were kept before it; and nothing, where the threads are the same.
use Rattle.std.proofs.Common.{◌≡◌, ℕ, ◌+◌, ◌-◌, List, [], ◌++◌, Option, Some, None, refl, ap, ◌∙◌, arith}
use Rattle.std.proofs.lemmas.Bool.{eq-eqb}
use Rattle.std.specs.List.{flat_map, range_with_len}
use Rattle.mach_types.specs.Kernel.Threads.{Threads}
use Rattle.mach_types.specs.declared.threads.ThreadState.{ThreadState}
use Rattle.mach_types.specs.declared.threads.ThreadState.TheVariants.{Ready, Running, Waiting}
use Rattle.fact_types.specs.declared.facts.Fact.{Fact}
use Rattle.event_facts.specs.Threads.{change_facts, changed_fact, created_fact, state_behind, states_of, thread_facts, told_from}
use Rattle.event_facts.proofs.KeptPieces.{kept_pieces}
use Rattle.event_facts.proofs.Lists.{nothing_in_all, two_pieces}

-- THE STATES THAT WERE KEPT

kept_changes : (before after : Threads)
    → flat_map (told_from (states_of before) after) (range_with_len 0 before.given) ≡ flat_map (changed_fact before after) (range_with_len 0 before.given)
kept_changes before after = kept_pieces (state_behind before) (λ k (o : Option ThreadState). change_facts (k + 1) o (state_behind after k)) before.given

pub all_changes : (before after : Threads) (states : List (Option ThreadState)) (given : ℕ) (f0 f1 f2 : List Fact) → states ≡ states_of before → given ≡ before.given
    → f1 ≡ f0 ++ flat_map (told_from states after) (range_with_len 0 given)
    → f2 ≡ f1 ++ flat_map (created_fact given after) (range_with_len 0 (after.given - given))
    → f2 ≡ f0 ++ thread_facts before after
unfolding thread_facts
all_changes before after states given f0 f1 f2 kept count p q =
    two_pieces f0 f1 f2 _ _
    (p
    ∙ (λ i. f0 ++ flat_map (told_from (kept i) after) (range_with_len 0 (count i)))
    ∙ ap (λ (l : List Fact). f0 ++ l) (kept_changes before after))
    (q ∙ ap (λ n. f1 ++ flat_map (created_fact n after) (range_with_len 0 (after.given - n))) count)

-- THREADS THAT ARE THE SAME

unchanged : (o : Option ThreadState) (t : ℕ) → change_facts t o o ≡ []
unchanged None t = refl
unchanged (Some Ready) t = refl
unchanged (Some (Running h)) t = refl
unchanged (Some (Waiting at)) t = rw (eq-eqb at at refl) refl

pub none_changes : (ts : Threads) → thread_facts ts ts ≡ []
unfolding thread_facts
none_changes ts =
    let none : ts.given - ts.given ≡ 0 = omega arith in
    let same = nothing_in_all (changed_fact ts ts) (range_with_len 0 ts.given) (λ k. unchanged (state_behind ts k) (k + 1)) in
    (λ i. same i ++ flat_map (created_fact ts.given ts) (range_with_len 0 (none i)))
