-- Which signal comes next, by the sets of what is pending and what is masked.
use Rattle.std.specs.Prelude.{ℕ, Bool, not, ◌&&◌}
use Rattle.mach_types.specs.Kernel.Signals.{has_signal}

-- whether a signal is pending and not masked
abbrev pub can_come : ℕ → ℕ → ℕ → Bool
can_come pending mask s = has_signal pending s && not (has_signal mask s)
