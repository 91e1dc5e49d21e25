-- What an event made of pending signals: by those that were kept before it; and nothing, where they are the same.
use Rattle.std.proofs.Common.{◌≡◌, ℕ, ◌+◌, List, [], ◌++◌, ◌&&◌, Bool, true, false, not, cond, Option, Some, None, refl, ap, ◌∙◌}
use Rattle.std.specs.List.{flat_map, range_with_len}
use Rattle.std.specs.Option.{option_to_list}
use Rattle.mach_types.specs.Kernel.Signals.{Signalling, has_signal}
use Rattle.block_model.specs.Sights.{thread}
use Rattle.fact_types.specs.declared.facts.Fact.{Fact}
use Rattle.fact_types.specs.declared.facts.Fact.TheVariants.{SignalDropped, SignalPosted}
use Rattle.event_facts.specs.Pending.{all_pending, delivered_to, held_facts, is_this, pending_behind, pending_fact, signal_fact, signal_facts, signal_from}
use Rattle.event_facts.proofs.KeptPieces.{kept_pieces}
use Rattle.event_facts.proofs.Lists.{nothing_in_all}

pub all_signalled : (before after : Signalling) (kept : List (Option ℕ)) (given : ℕ) (delivered : Option ℕ) (t : ℕ) (f0 f1 : List Fact) → kept ≡ all_pending before given
    → f1 ≡ f0 ++ flat_map (signal_from kept delivered t after) (range_with_len 0 given)
    → f1 ≡ f0 ++ signal_facts given delivered t before after
unfolding signal_facts
all_signalled before after kept given delivered t f0 f1 is p =
    p
    ∙ ap (λ (l : List (Option ℕ)). f0 ++ flat_map (signal_from l delivered t after) (range_with_len 0 given)) is
    ∙ ap (λ (l : List Fact). f0 ++ l)
    (kept_pieces (pending_behind before) (λ k (o : Option ℕ). held_facts (delivered_to delivered t (k + 1)) (k + 1) o (pending_behind after k)) given)

-- where the same signals are pending
bit_same : (has other : Bool) (posted dropped : Fact)
    → option_to_list (cond has (cond has None (Some posted)) (cond (has && other) (Some dropped) None)) ≡ []
bit_same true other posted dropped = refl
bit_same false other posted dropped = refl

held_same : (delivered : Option ℕ) (t : ℕ) (o : Option ℕ) → held_facts delivered t o o ≡ []
held_same delivered t None = refl
held_same delivered t (Some b) =
    nothing_in_all (pending_fact delivered t b b) (range_with_len 0 31)
    (λ k. bit_same (has_signal b (k + 1)) (not (is_this (k + 1) delivered)) (SignalPosted (k + 1) (thread t)) (SignalDropped (k + 1) (thread t)))

pub none_signalled : (given t : ℕ) (g : Signalling) → signal_facts given None t g g ≡ []
unfolding signal_facts
none_signalled given t g =
    nothing_in_all (signal_fact None t g g) (range_with_len 0 given) (λ k. held_same (delivered_to None t (k + 1)) (k + 1) (pending_behind g k))
