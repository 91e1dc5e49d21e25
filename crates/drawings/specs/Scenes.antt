-- What a policy sees of the harts of a machine at a place (own), and which of them can make an event.
use Rattle.std.specs.Prelude.{ℕ, zero, suc, ◌%◌, ◌^◌, ◌==◌, ◌&&◌, ◌||◌, Bool, false, List, [], ◌∷◌, ◌++◌, filter, length, None, if◌then◌else◌, nat_lt}
use Rattle.mach_types.specs.Kernel.Scheduling.{Scheduling, affinity_of, has_hart}
use Rattle.mach_types.specs.declared.events.Sight.{Sight}
use Rattle.draw_policies.specs.Acting.{can_act}

-- how many harts there are; of each hart what a scheduler sees of it, whether its thread is inside a good restartable sequence as
-- the hart sees memory, and whether its next instruction traps; and the ready threads with the affinities
pub record Scene : Type 0 where
  pub harts : ℕ
  pub sight : ℕ → Sight
  pub is_inside : ℕ → Bool
  pub traps : ℕ → Bool
  pub scheduling : Scheduling

-- what the turn of a hart goes by, of all that a scheduler sees of it: nothing else is told
abbrev pub of_turn : Sight → Sight
of_turn seen = record seen { first_ready = None; all_taken = false; local = false; ran = 0; credit = 0 }

-- whether a thread with these harts may begin to run on hart h, where the first so many harts are open: the hart is one of them, and
-- is open, or none of them is
abbrev pub may_begin : ℕ → ℕ → ℕ → Bool
may_begin opened h set = has_hart set h && (nat_lt h opened || (set % 2 ^ opened == 0))

-- the ready threads that may, in their order
abbrev pub startable : ℕ → ℕ → Scheduling → List ℕ
startable opened h s = filter (λ t. may_begin opened h (affinity_of t s)) s.order

-- whether hart h can make an event
abbrev pub is_able : Scene → ℕ → ℕ → Bool
is_able scene opened h = can_act (scene.sight h) (nat_lt 0 (length (startable opened h scene.scheduling)))

-- the numbers below n that pass a test, rising
abbrev pub passing : (ℕ → Bool) → ℕ → List ℕ
passing test zero = []
passing test (suc n) = passing test n ++ (if test n then n ∷ [] else [])

-- the harts that can
abbrev pub able : Scene → ℕ → List ℕ
able scene opened = passing (is_able scene opened) scene.harts
