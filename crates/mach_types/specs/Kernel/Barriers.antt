-- Barriers among the harts that run threads of a process (membarrier(2); uapi linux/membarrier.h). A set of harts is a mask whose bit h
-- stands for hart h. There is one process, so a barrier on all processes is one on its threads.
use Rattle.std.specs.Prelude.{ℕ, ℤ, pos, neg_ℤ, ◌+◌, ◌^◌, ◌==◌, ◌&&◌, ◌||◌, Bool, true, false, not, int_lt, List, [], ◌∷◌, find, map, sum, zero, suc, if◌then◌else◌, Option}
use Rattle.std.specs.Option.{option_map_or}
use Rattle.std.specs.Ordering.{int_eq}
use Rattle.mach_types.specs.Kernel.Scheduling.{has_hart}
use Rattle.mach_types.specs.declared.barriers.Answer.{Answer}
use Rattle.mach_types.specs.declared.barriers.Answer.TheVariants.{Value, Begin}
use Rattle.mach_types.specs.declared.barriers.BarrierCommand.{BarrierCommand}
use Rattle.mach_types.specs.declared.barriers.BarrierCommand.TheVariants.{Query, Global, GlobalExpedited, RegisterGlobalExpedited, PrivateExpedited, RegisterPrivateExpedited, PrivateExpeditedRseq, RegisterPrivateExpeditedRseq, GetRegistrations}
use Rattle.mach_types.specs.declared.barriers.Registered.{Registered}
use Rattle.mach_types.specs.declared.barriers.TheConstants.{MEMBARRIER_CMD_FLAG_CPU}
use Rattle.mach_types.specs.declared.errors.Errno.{Errno}
use Rattle.mach_types.specs.declared.errors.TheConstants.{EINVAL, EPERM}

-- the number of a command (`enum membarrier_cmd`)
abbrev pub number_of : BarrierCommand → ℕ
number_of Query = 0
number_of Global = 1
number_of GlobalExpedited = 2
number_of RegisterGlobalExpedited = 4
number_of PrivateExpedited = 8
number_of RegisterPrivateExpedited = 16
number_of PrivateExpeditedRseq = 128
number_of RegisterPrivateExpeditedRseq = 256
number_of GetRegistrations = 512

-- the commands that are offered (own)
abbrev pub offered : List BarrierCommand
offered =
    Query
    ∷ Global
    ∷ GlobalExpedited
    ∷ RegisterGlobalExpedited
    ∷ PrivateExpedited
    ∷ RegisterPrivateExpedited
    ∷ PrivateExpeditedRseq
    ∷ RegisterPrivateExpeditedRseq
    ∷ GetRegistrations
    ∷ []

-- whether restartable sequences are begun anew
abbrev pub restarts : BarrierCommand → Bool
restarts c = number_of c == number_of PrivateExpeditedRseq

-- flags must be 0, but a command that restarts takes the flag of one processor
abbrev pub takes_flags : ℕ → BarrierCommand → Bool
takes_flags flags c = (flags == 0) || restarts c && (flags == MEMBARRIER_CMD_FLAG_CPU)

-- the command that a call asks for; none where no offered one has its number and takes its flags
abbrev pub is_asked : ℤ → ℕ → BarrierCommand → Bool
is_asked cmd flags c = int_eq cmd (pos (number_of c)) && takes_flags flags c

unfoldable pub asked : ℤ → ℕ → Option BarrierCommand
asked cmd flags = find (is_asked cmd flags) offered

-- the set of those of the first so many harts that pass a test
abbrev pub harts_that : (ℕ → Bool) → ℕ → ℕ
harts_that test zero = 0
harts_that test (suc n) = harts_that test n + (if test n then 2 ^ n else 0)

-- whether a barrier is about a hart: about each, or under the flag with a processor of 0 or more about that one
abbrev pub is_about : ℕ → ℤ → ℕ → Bool
is_about flags cpu h = (flags == 0) || int_lt cpu (pos 0) || int_eq cpu (pos h)

-- a target runs a thread, isn't the caller's hart, and the barrier is about it
abbrev pub is_target : ℕ → ℤ → ℕ → ℕ → ℕ → Bool
is_target flags cpu here running h = has_hart running h && not (h == here) && is_about flags cpu h

abbrev pub targets : ℕ → ℤ → ℕ → ℕ → ℕ → ℕ
targets flags cpu here running harts = harts_that (is_target flags cpu here running) harts

-- an error number, as what a call answers
abbrev pub refusal : Errno → Answer
refusal e = Value (neg_ℤ (pos e.0))

-- a barrier at these harts: over at once where there are none
abbrev pub barrier_at : ℕ → Bool → Answer
barrier_at harts restart = if harts == 0 then Value (pos 0) else Begin harts restart

-- QUERY: the sum of the numbers of all that is offered
abbrev pub query_value : ℕ
query_value = sum (map number_of offered)

-- GET_REGISTRATIONS: the sum of the numbers of the commands that registered the process (own: after 256 Linux counts 16 too)
abbrev pub counted_if : Bool → BarrierCommand → ℕ
counted_if registered c = if registered then number_of c else 0

abbrev pub registrations : Registered → ℕ
registrations r =
    counted_if r.global RegisterGlobalExpedited + counted_if r.private RegisterPrivateExpedited + counted_if r.rseq RegisterPrivateExpeditedRseq

-- what a command answers to a process with these registrations, over the targets of its barrier
abbrev pub answer_of : Registered → ℕ → BarrierCommand → Answer
answer_of r harts Query = Value (pos query_value)
answer_of r harts Global = barrier_at harts false
answer_of r harts GlobalExpedited = if r.global then barrier_at harts false else Value (pos 0)
answer_of r harts RegisterGlobalExpedited = Value (pos 0)
answer_of r harts PrivateExpedited = if r.private then barrier_at harts false else refusal EPERM
answer_of r harts RegisterPrivateExpedited = Value (pos 0)
answer_of r harts PrivateExpeditedRseq = if r.rseq then barrier_at harts true else refusal EPERM
answer_of r harts RegisterPrivateExpeditedRseq = Value (pos 0)
answer_of r harts GetRegistrations = Value (pos (registrations r))

-- membarrier(cmd, flags, cpu_id) of a thread on hart `here`, where threads run on the harts `running` of a machine of so many
abbrev pub command : Registered → ℤ → ℕ → ℤ → ℕ → ℕ → ℕ → Answer
command r cmd flags cpu here running harts =
    option_map_or (answer_of r (targets flags cpu here running harts)) (asked cmd flags) (refusal EINVAL)

-- the registrations after a command
abbrev pub registered_by : Registered → BarrierCommand → Registered
registered_by r Query = r
registered_by r Global = r
registered_by r GlobalExpedited = r
registered_by r RegisterGlobalExpedited = record r { global = true }
registered_by r PrivateExpedited = r
registered_by r RegisterPrivateExpedited = record r { private = true }
registered_by r PrivateExpeditedRseq = r
registered_by r RegisterPrivateExpeditedRseq = record r { rseq = true }
registered_by r GetRegistrations = r

abbrev pub registered_after : Registered → ℤ → ℕ → Registered
registered_after r cmd flags = option_map_or (registered_by r) (asked cmd flags) r

-- no registrations, as a process starts
abbrev pub none_registered : Registered
none_registered = record { global = false; private = false; rseq = false }
