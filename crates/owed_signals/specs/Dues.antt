-- What is due at harts that owe their thread a signal, read off the parts of a process (own).
use Rattle.std.specs.Prelude.{ℕ, ◌≡◌, ◌&&◌, Bool, true, false, not, if◌then◌else◌, is_some, length, nat_lt, slice_get}
use Rattle.std.specs.Option.{option_map_or}
use Rattle.mach_types.specs.Kernel.Barriers.{harts_that}
use Rattle.mach_types.specs.Kernel.Scheduling.{has_hart}
use Rattle.mach_types.specs.declared.events.Choice.{Choice}
use Rattle.mach_types.specs.declared.events.Choice.TheVariants as asked
use Rattle.hart_state.specs.declared.hart.HartState.{HartState}
use Rattle.process.specs.declared.parts.Parts.{Parts}
use Rattle.owed_signals.specs.declared.dues.Dues.{Dues}

-- whether hart k owes its thread a signal, by this set, and the thread waits in no barrier
abbrev pub is_owing_in : Parts → ℕ → ℕ → Bool
is_owing_in m owed k =
    option_map_or (λ (x : HartState). has_hart owed k && not (is_some x.waits)) (slice_get m.harts.items k) false

-- whether a store of the hart waits
abbrev pub has_stores_in : Parts → ℕ → Bool
has_stores_in m k = option_map_or (λ (x : HartState). nat_lt 0 (length x.buffer)) (slice_get m.harts.items k) false

-- whether it owes one, and has stores that wait, or none
abbrev pub owes_with : Parts → ℕ → Bool → ℕ → Bool
owes_with m owed true k = is_owing_in m owed k && has_stores_in m k
owes_with m owed false k = is_owing_in m owed k && not (has_stores_in m k)

-- so much is due
pub record AreDuesOf (m : Parts) (owed : ℕ) (x : Dues) : Type 0 where
  pub drains : x.drains ≡ harts_that (owes_with m owed true) 8
  pub signals : x.signals ≡ harts_that (owes_with m owed false) 8

-- whether a choice is that the oldest store enters memory, and whether it is that a signal is delivered
abbrev pub is_drain : Choice → Bool
is_drain asked.Exec = false
is_drain asked.Drain = true
is_drain asked.Take = false
is_drain asked.Done = false
is_drain asked.Preempt = false
is_drain (asked.Run t) = false
is_drain asked.Signal = false

abbrev pub is_signal : Choice → Bool
is_signal asked.Exec = false
is_signal asked.Drain = false
is_signal asked.Take = false
is_signal asked.Done = false
is_signal asked.Preempt = false
is_signal (asked.Run t) = false
is_signal asked.Signal = true

-- whether a choice of hart h comes in time
abbrev pub is_in_time : Dues → ℕ → Choice → Bool
is_in_time x h c =
    if has_hart x.drains h then is_drain c else if has_hart x.signals h then is_signal c else true
