-- Worked examples: which ready threads a policy sees, in which order, and the manner of a seed.
use Rattle.std.proofs.Common.{◌≡◌, ℕ, [], ◌∷◌, Some, None, refl}
use Rattle.mach_types.specs.Kernel.Threads.{Thread, Threads}
use Rattle.mach_types.specs.declared.threads.ThreadState.{ThreadState}
use Rattle.mach_types.specs.declared.threads.ThreadState.TheVariants.{Ready, Running, Waiting}
use Rattle.draw_policies.specs.declared.policies.Policies.TheVariants.{All, Only}
use Rattle.draw_policies.specs.declared.policies.Policy.TheVariants as policy
use Rattle.drawn_runs.specs.DrawnRuns.{ready_numbers}
use Rattle.drawn_runs.specs.Manners.{manner_for}

abbrev thread : ℕ → ThreadState → Thread
thread t state = record { tid = t; state = state; clear_at = 0 }

-- of five threads the second has ended, the first runs and the fourth waits
abbrev several : Threads
several = record {
  live = thread 1 (Running (record { 0 = 0 })) ∷ thread 3 Ready ∷ thread 4 (Waiting 4096) ∷ thread 5 Ready ∷ [];
  given = 5;
  waiters = 4 ∷ [];
}

pub ready_ones : ready_numbers several ≡ 3 ∷ 5 ∷ []
ready_ones = refl

-- at the start there is thread 1 alone
pub ready_at_start : ready_numbers (record { live = thread 1 Ready ∷ []; given = 1; waiters = [] }) ≡ 1 ∷ []
ready_at_start = refl

-- seed 7 draws by the third policy, and of 100,000 steps the last 50,000 go on fairly
pub manner_of_7 : manner_for All None 7 100000
    ≡ record { seed = 7; policy = policy.Short; scripted = 0; calm = 50000 }
manner_of_7 = refl

-- by one policy, each seed draws by that one; and from the first event on fairly where that is said
pub manner_of_7_alone : manner_for (Only policy.Stall) (Some 0) 7 100000
    ≡ record { seed = 7; policy = policy.Stall; scripted = 0; calm = 0 }
manner_of_7_alone = refl
