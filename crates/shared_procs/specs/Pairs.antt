-- Two processes on one machine: what a pair starts from, where it stands, and what an event makes of it. Each
-- process has a plain machine of its own, in which the harts of the other one are idle. Both have the bytes of
-- the segment in common, and each knows all requests of barriers.
use Rattle.std.specs.Prelude.{ℕ, ◌+◌, ◌-◌, Bool, true, false, not, List, [], ◌++◌, suc, zero, if◌then◌else◌, Option, Some, None, is_some, is_none, nat_le}
use Rattle.std.specs.List.{filter}
use Rattle.std.specs.Option.{option_map_or}
use Rattle.mach_types.specs.Bytes.{all_stored, written}
use Rattle.mach_types.specs.Kernel.Threads.{running_on}
use Rattle.mach_types.specs.Events.{begun_by, choice_for, is_run, kind_of}
use Rattle.mach_types.specs.declared.events.Choice.{Choice}
use Rattle.mach_types.specs.declared.events.Tid.{Tid}
use Rattle.mach_types.specs.declared.events.Why.{Why}
use Rattle.mach_types.specs.declared.events.Why.TheVariants.{Busy, NotReady}
use Rattle.mach_types.specs.declared.limits.End.{End}
use Rattle.mach_types.specs.declared.limits.Limits.{Limits}
use Rattle.mach_types.specs.declared.user_memory.Store.{Store}
use Rattle.mach_types.specs.declared.user_memory.Write.{Write}
use Rattle.mach_types.specs.declared.user_memory.Write.TheVariants.{Stored, Zeroed}
use Rattle.elf_load.specs.Start.{Program, program_of}
use Rattle.elf_load.specs.declared.image.Image.{Image}
use Rattle.block_model.specs.Beside.{Neighbour, is_in_segment}
use Rattle.block_model.specs.Calls.Barriers.{running_harts}
use Rattle.block_model.specs.Events.{done_of, refusal_of}
use Rattle.block_model.specs.Here.{Here, Done}
use Rattle.block_model.specs.Plain.{Plain, apply, plain_over, plain_start}
use Rattle.block_model.specs.Setting.{Setting}
use Rattle.block_model.specs.Stands.{Stand, aside, here_at}

-- WHERE A PAIR STANDS

-- what a pair starts from: two loaded programs and the limits; each process has so many frames, and the steps
-- are those of both together
pub record PairSetting : Type 0 where
  pub first : Program
  pub second : Program
  pub limits : Limits

-- that of two images under limits
abbrev pub pair_setting_of : Image → Image → Limits → PairSetting
pair_setting_of first second limits = record { first = program_of first; second = program_of second; limits = limits }

-- that of one process, which is the second one, or else the first
abbrev pub setting : PairSetting → Bool → Setting
setting s p = record { program = if p then s.second else s.first; limits = s.limits }

-- the plain machine of each process, the bytes of the segment by address, and how many events were made
pub record Pair : Type 0 where
  pub first : Plain
  pub second : Plain
  pub shared : ℕ → ℕ
  pub made : ℕ

abbrev pub half : Bool → Pair → Plain
half p m = if p then m.second else m.first

-- at the start the segment is zero
abbrev pub pair_start : PairSetting → Pair
pair_start s = record { first = plain_start (setting s false); second = plain_start (setting s true); shared = λ a. 0; made = 0 }

-- whether a process goes on: it hasn't ended, and it isn't so that a thread of it is live and none runs or is
-- ready
abbrev pub goes_on : Pair → Bool → Bool
goes_on m p = is_none (plain_over (half p m))

-- whether none does
abbrev pub is_over : Pair → Bool
is_over m = if goes_on m false then false else not (goes_on m true)

-- the thread of a process that runs on hart h; the harts of a process that doesn't go on are idle
abbrev pub runs_in : Pair → Bool → ℕ → Option ℕ
runs_in m p h = if goes_on m p then running_on h (half p m).kernel.threads else None

-- what stands beside a process
abbrev pub neighbour : PairSetting → Pair → Bool → Neighbour
neighbour s m p = record {
  shared = m.shared;
  registered = (half (not p) m).kernel.barriers;
  running = if goes_on m (not p) then running_harts (half (not p) m).kernel.threads s.limits.harts else 0;
}

-- where a process stands, and what a rule may read there where hart h is asked
abbrev pub stand : PairSetting → Pair → Bool → Stand
stand s m p = record { setting = setting s p; plain = half p m; beside = Some (neighbour s m p) }

abbrev pub here_two : PairSetting → Pair → Bool → ℕ → Here
here_two s m p h = here_at (stand s m p) h

-- THREADS OF BOTH

-- in scripts and logs a thread of the second process has its number plus this one (own)
abbrev pub SECOND_THREADS : ℕ
SECOND_THREADS = 2147483648

abbrev pub is_of_second : ℕ → Bool
is_of_second t = nat_le SECOND_THREADS t

abbrev pub own_number : ℕ → ℕ
own_number t = if is_of_second t then t - SECOND_THREADS else t

-- the number by which a log names a thread of a process; 0 where there is none
abbrev pub number_in_log : Bool → Option ℕ → ℕ
number_in_log p None = 0
number_in_log p (Some t) = if p then t + SECOND_THREADS else t

-- WHICH PROCESS ACTS

-- the process whose thread runs on hart h. Where none does, what may come is a `take`, which both see alike:
-- one that goes on
abbrev pub on_hart : Pair → ℕ → Bool
on_hart m h =
    if is_some (runs_in m true h) then true
    else if is_some (runs_in m false h) then false
    else not (goes_on m false)

-- the process of an event: that of the thread that begins to run, or else that of the hart
abbrev pub acting : Pair → ℕ → Choice → Bool
acting m h c = option_map_or (λ (t : Tid). is_of_second t.0) (begun_by c) (on_hart m h)

-- a choice by the number that a thread has in its process
abbrev pub own_choice : Choice → Choice
own_choice c = option_map_or (λ (t : Tid). choice_for (kind_of c) (record { 0 = own_number t.0 })) (begun_by c) c

-- the first condition that fails where a thread of a process is to begin to run: no thread of the other one may
-- run on the hart, and a thread of a process that doesn't go on isn't ready
abbrev pub refusal_begins : Pair → Bool → ℕ → Option Why → Option Why
refusal_begins m p h why =
    if is_some (runs_in m (not p) h) then Some Busy
    else if goes_on m p then why
    else Some NotReady

-- the first condition of a choice of hart h that fails, by the numbers of process p, which acts
abbrev pub refusal_as : PairSetting → Pair → Bool → ℕ → Choice → Option Why
refusal_as s m p h c =
    if is_run (kind_of c) then refusal_begins m p h (refusal_of c (here_two s m p h)) else refusal_of c (here_two s m p h)

-- the first condition of a choice of hart h that fails, over the process that acts
abbrev pub refusal_two : PairSetting → Pair → ℕ → Choice → Option Why
refusal_two s m h c = refusal_as s m (acting m h c) h (own_choice c)

-- WHAT AN EVENT DOES

-- whether a write is one of an instruction to the segment
abbrev pub is_shared : Write → Bool
is_shared (Stored w) = is_in_segment w.at
is_shared (Zeroed at count) = false

-- the stores that wait on the first so many harts, harts in rising order, each oldest first
abbrev pub waiting_below : Plain → ℕ → List Store
waiting_below m zero = []
waiting_below m (suc n) = waiting_below m n ++ m.waiting n

-- where an event ends a process, what waits on its harts enters memory in it
abbrev pub closing : ℕ → Plain → Option End → List Store
closing harts m None = []
closing harts m (Some e) = waiting_below m harts

-- what a choice by the numbers of process p does, and what a choice does
abbrev pub done_as : PairSetting → Pair → Bool → ℕ → Choice → Done
done_as s m p h c =
    let d = done_of c (here_two s m p h) in
    record d { entered = d.entered ++ all_stored (closing s.limits.harts (half p m) d.ended) }

abbrev pub done_two : PairSetting → Pair → ℕ → Choice → Done
done_two s m h c = done_as s m (acting m h c) h (own_choice c)

-- a process that ended has no waiting store and no reservation, and its barrier calls are gone; requests that
-- they made stay
abbrev pub ended_if : Option End → Plain → Plain
ended_if o m = record m {
  waiting = λ h. if is_some o then [] else m.waiting h;
  reserved = λ h. if is_some o then None else m.reserved h;
  awaits = λ h. if is_some o then None else m.awaits h;
}

-- the pair after an event of hart h and a process that did this
abbrev pub apply_two : ℕ → Bool → Done → Pair → Pair
apply_two h p d m = record {
  first = if p then aside h d (filter is_shared d.entered) m.first else ended_if d.ended (apply h d m.first);
  second = if p then ended_if d.ended (apply h d m.second) else aside h d (filter is_shared d.entered) m.second;
  shared = λ a. written (filter is_shared d.entered) a (m.shared a);
  made = suc m.made;
}
