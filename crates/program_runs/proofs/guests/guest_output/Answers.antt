use Rattle.std.proofs.Common.{subst, sym}
use Rattle.outcomes.specs.Guests.{IsGuestOutput}
use Rattle.program_runs.proofs.guests.guest_output.Goals as goal

pub returns-clause-output : goal.returns-clause-output
returns-clause-output c = subst (IsGuestOutput c.args.guest) (sym c.whole.ensures) c.in_ok-guest_file.ensures.output
