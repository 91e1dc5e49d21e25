use Rattle.std.proofs.Common.{◌≡◌}
use Rattle.machine_lock.proofs.lock.Turnstile.take_turn.Given as goal

abbrev pub invariant-loop : goal.invariant-loop
invariant-loop g l = (l.pass-inside.seat.table_id ≡ l.initial.pass-inside.seat.table_id) × (l.pass-inside.seat.me ≡ l.initial.pass-inside.seat.me)
