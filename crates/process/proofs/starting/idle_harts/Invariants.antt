-- So far as many idle harts as rounds.
use Rattle.process.proofs.Common.{◌≡◌, length, All, idle_hart}
use Rattle.process.proofs.starting.idle_harts.Given as goal

abbrev pub invariant-loop : goal.invariant-loop
invariant-loop l = record { count : length l.harts.items ≡ l.counter; idle : All (λ hart. hart ≡ idle_hart) l.harts.items }
