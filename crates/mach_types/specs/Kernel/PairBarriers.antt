-- Barriers among the harts that run threads of two processes (membarrier(2); uapi linux/membarrier.h): a
-- barrier on all processes is one on both, an expedited one on all is about those that registered for it, and
-- a private one about the caller's own alone.
use Rattle.std.specs.Prelude.{ℕ, ℤ, Bool, false, ◌&&◌, ◌||◌}
use Rattle.std.specs.Option.{option_map_or}
use Rattle.mach_types.specs.Kernel.Barriers.{answer_of, asked, barrier_at, harts_that, refusal, targets}
use Rattle.mach_types.specs.Kernel.Scheduling.{has_hart}
use Rattle.mach_types.specs.declared.barriers.Answer.{Answer}
use Rattle.mach_types.specs.declared.barriers.BarrierCommand.{BarrierCommand}
use Rattle.mach_types.specs.declared.barriers.BarrierCommand.TheVariants.{Query, Global, GlobalExpedited, RegisterGlobalExpedited, PrivateExpedited, RegisterPrivateExpedited, PrivateExpeditedRseq, RegisterPrivateExpeditedRseq, GetRegistrations}
use Rattle.mach_types.specs.declared.barriers.Registered.{Registered}
use Rattle.mach_types.specs.declared.errors.TheConstants.{EINVAL}

-- whether a command is about a hart, by the registrations of the caller's process and of the other one: `own`
-- says whether a thread of the caller's process runs there, and `others` whether one of the other does. Only a
-- command that begins barriers is about harts
abbrev pub is_concerned : BarrierCommand → Registered → Registered → Bool → Bool → Bool
is_concerned Query mine other own others = false
is_concerned Global mine other own others = own || others
is_concerned GlobalExpedited mine other own others = mine.global && own || other.global && others
is_concerned RegisterGlobalExpedited mine other own others = false
is_concerned PrivateExpedited mine other own others = own
is_concerned RegisterPrivateExpedited mine other own others = false
is_concerned PrivateExpeditedRseq mine other own others = own
is_concerned RegisterPrivateExpeditedRseq mine other own others = false
is_concerned GetRegistrations mine other own others = false

-- the harts that it is about, of those on which threads of the one process run and of those on which threads
-- of the other do
abbrev pub concerned : BarrierCommand → Registered → Registered → ℕ → ℕ → ℕ → ℕ
concerned c mine other mine_running other_running harts =
    harts_that (λ h. is_concerned c mine other (has_hart mine_running h) (has_hart other_running h)) harts

-- what it answers over its targets; a barrier of GLOBAL_EXPEDITED wants no registration of the caller, whose
-- harts are targets only where it has one
abbrev pub answer_beside : Registered → ℕ → BarrierCommand → Answer
answer_beside mine harts Query = answer_of mine harts Query
answer_beside mine harts Global = answer_of mine harts Global
answer_beside mine harts GlobalExpedited = barrier_at harts false
answer_beside mine harts RegisterGlobalExpedited = answer_of mine harts RegisterGlobalExpedited
answer_beside mine harts PrivateExpedited = answer_of mine harts PrivateExpedited
answer_beside mine harts RegisterPrivateExpedited = answer_of mine harts RegisterPrivateExpedited
answer_beside mine harts PrivateExpeditedRseq = answer_of mine harts PrivateExpeditedRseq
answer_beside mine harts RegisterPrivateExpeditedRseq = answer_of mine harts RegisterPrivateExpeditedRseq
answer_beside mine harts GetRegistrations = answer_of mine harts GetRegistrations

-- membarrier(cmd, flags, cpu_id) of a thread on hart `here` of a machine of so many, on which threads of its
-- process run on the harts `mine_running`, and threads of another process on the harts `other_running`
abbrev pub command_two : Registered → Registered → ℤ → ℕ → ℤ → ℕ → ℕ → ℕ → ℕ → Answer
command_two mine other cmd flags cpu here mine_running other_running harts =
    option_map_or
    (λ c. answer_beside
    mine
    (targets flags cpu here (concerned c mine other mine_running other_running harts) harts)
    c)
    (asked cmd flags)
    (refusal EINVAL)
