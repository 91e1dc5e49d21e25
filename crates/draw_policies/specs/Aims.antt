-- Aims (own): what a hart means to do once no store of it waits. Until then its stores enter memory, one an event.
use Rattle.std.specs.Prelude.{Bool, true, Option, Some, None, if◌then◌else◌}
use Rattle.mach_types.specs.declared.events.Choice.{Choice}
use Rattle.mach_types.specs.declared.events.Choice.TheVariants as asked
use Rattle.mach_types.specs.declared.events.Sight.{Sight}
use Rattle.draw_policies.specs.declared.aims.Aim.{Aim}
use Rattle.draw_policies.specs.declared.aims.Aim.TheVariants as means

-- the event that is meant
abbrev pub choice_of_aim : Aim → Choice
choice_of_aim means.Preempt = asked.Preempt
choice_of_aim means.Take = asked.Take
choice_of_aim means.Signal = asked.Signal

-- whether it can still be done, by what is seen of the hart
abbrev pub is_due : Sight → Aim → Bool
is_due seen means.Preempt = true
is_due seen means.Take = seen.requested
is_due seen means.Signal = seen.deliverable

-- the aim that a hart has, if it can still be done
abbrev pub still_due : Sight → Option Aim → Option Aim
still_due seen None = None
still_due seen (Some a) = if is_due seen a then Some a else None
