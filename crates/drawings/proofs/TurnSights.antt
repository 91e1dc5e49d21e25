-- The turn of a hart goes by what it is said to go by: whichever threads are ready where it isn't idle, and whether its thread's next
-- instruction traps or not where no signal can be delivered.
use Rattle.std.proofs.Common.{◌≡◌, ℕ, Bool, true, false, ◌&&◌, cond, List, Option, Some, refl, sym, ap, ◌∙◌}
use Rattle.std.proofs.lemmas.Bool.{false≢true}
use Rattle.mach_types.specs.declared.events.Sight.{Sight}
use Rattle.mach_types.specs.declared.events.Tid.{Tid}
use Rattle.draw_policies.specs.Beginning.{thread_to_run}
use Rattle.draw_policies.specs.Turns.{barrier_turn, idle_turn, running_turn, turn}
use Rattle.draw_policies.specs.declared.aims.Aim.{Aim}
use Rattle.draw_policies.specs.declared.policies.Weights.{Weights}
use Rattle.draw_policies.specs.declared.turns.Turn.{Turn}
use Rattle.draw_policies.proofs.Laws.{same-traps}
use Rattle.drawings.specs.Scenes.{of_turn}

-- one that is looked at
pub same_turn : (weights : Weights) (looked seen : Sight) (traps : Bool) (threads : List ℕ) (last : Option Tid) (held : Option Aim)
    (w : ℕ) → looked ≡ of_turn seen
    → turn weights looked traps threads last held w ≡ turn weights seen traps threads last held w
same_turn weights looked seen traps threads last held w is = ap (λ (s : Sight). turn weights s traps threads last held w) is

-- where no signal can be delivered, or the hart is idle
pub quiet_turn : (weights : Weights) (seen : Sight) (traps : Bool) (threads : List ℕ) (last : Option Tid) (held : Option Aim) (w : ℕ)
    → seen.deliverable ≡ false → turn weights seen false threads last held w ≡ turn weights seen traps threads last held w
quiet_turn weights seen traps threads last held w none =
    ap (λ (b : Bool). turn weights seen (b && traps) threads last held w) (sym none)
    ∙ same-traps weights seen traps threads last held w

skips : (b : Bool) (one other rest more : Option Turn) → b ≡ false → rest ≡ more → cond b one rest ≡ cond b other more
skips true one other rest more off is = absurd (false≢true (sym off))
skips false one other rest more off is = is

takes : (b : Bool) (one rest more : Option Turn) → b ≡ true → cond b one rest ≡ cond b one more
takes true one rest more on = refl
takes false one rest more on = absurd (false≢true on)

pub idle_turn_same : (weights : Weights) (seen : Sight) (traps : Bool) (threads : List ℕ) (last : Option Tid) (held : Option Aim) (w : ℕ)
    → seen.idle ≡ true → turn weights seen false threads last held w ≡ turn weights seen traps threads last held w
idle_turn_same weights seen traps threads last held w idle =
    takes seen.idle (idle_turn weights seen (thread_to_run threads last w))
    (cond seen.in_barrier (Some (barrier_turn weights seen)) (Some (running_turn weights seen false held w)))
    (cond seen.in_barrier (Some (barrier_turn weights seen)) (Some (running_turn weights seen traps held w))) idle

-- where the hart isn't idle
pub busy_turn : (weights : Weights) (seen : Sight) (traps : Bool) (threads ready : List ℕ) (last : Option Tid) (held : Option Aim) (w : ℕ)
    → seen.idle ≡ false → turn weights seen traps threads last held w ≡ turn weights seen traps ready last held w
busy_turn weights seen traps threads ready last held w busy =
    let rest = cond seen.in_barrier (Some (barrier_turn weights seen)) (Some (running_turn weights seen traps held w)) in
    skips seen.idle (idle_turn weights seen (thread_to_run threads last w)) (idle_turn weights seen (thread_to_run ready last w)) rest
    rest busy refl
