use Rattle.std.proofs.Common.{◌≡◌, ℕ}
use Rattle.machine_lock.specs.Logs.{Adds}
use Rattle.hart_workers.proofs.turns.go_on.Given as goal

-- the hart added so many entries so far
abbrev pub invariant-loop : goal.invariant-loop
invariant-loop g l =
    (g.M.Meaning.setting l.machine ≡ g.M.Meaning.setting l.fn.machine)
    × (n : ℕ) × Adds (g.M.Meaning.next (g.M.Meaning.setting l.fn.machine)) l.hart n (g.M.Meaning.log l.fn.machine) (g.M.Meaning.log l.machine)
