-- Pair runs: logs of which every entry is allowed at its place. What happened is read step by step, newest
-- event first.
use Rattle.std.specs.Prelude.{ℕ, ◌≡◌, Bool, true, false, List, [], ◌∷◌, fold, if◌then◌else◌, Option, Some, None, is_some, nat_le, Result, Ok, Err, ◌&&◌}
use Rattle.mach_types.specs.Events.{choice_of, kind_of}
use Rattle.mach_types.specs.declared.events.Choice.{Choice}
use Rattle.mach_types.specs.declared.events.Entry.{Entry}
use Rattle.mach_types.specs.declared.events.Why.{Why}
use Rattle.mach_types.specs.declared.events.Why.TheVariants.{NoHart}
use Rattle.mach_types.specs.declared.limits.End.{End}
use Rattle.mach_types.specs.declared.limits.End.TheVariants as over
use Rattle.block_model.specs.Deciding.{pc_in, thread_in}
use Rattle.block_model.specs.Here.{Done}
use Rattle.shared_procs.specs.Pairs.{Pair, PairSetting, acting, apply_two, done_two, half, here_two, is_over, number_in_log, own_choice, pair_start, refusal_two}
use Rattle.shared_procs.specs.declared.outcomes.PairEnd.{PairEnd}
use Rattle.shared_procs.specs.declared.outcomes.PairEnd.TheVariants.{Done as BothEnded, Stuck, Limit, Unended}
use Rattle.shared_procs.specs.declared.outcomes.PairRefused.{PairRefused}
use Rattle.shared_procs.specs.declared.outcomes.PairRefused.TheVariants.{Ended, Full, NotEnabled}
use Rattle.shared_procs.specs.declared.outcomes.ProcState.{ProcState}
use Rattle.shared_procs.specs.declared.outcomes.ProcState.TheVariants.{Live, Exit, Killed}

-- WHICH EVENT MAY COME

-- the entry of a choice of hart h, by the numbers of process p: the thread that begins to run, or runs there, by its
-- number in logs, and its pc; and the entry of a choice
abbrev pub entry_as : PairSetting → Pair → Bool → ℕ → Choice → Entry
entry_as s m p h c =
    let here = here_two s m p h in
    record {
      hart = record { 0 = h };
      kind = kind_of c;
      tid = record { 0 = number_in_log p (thread_in c here) };
      pc = pc_in here (thread_in c here);
    }

abbrev pub entry_two : PairSetting → Pair → ℕ → Choice → Entry
entry_two s m h c = entry_as s m (acting m h c) h (own_choice c)

-- an entry, unless a condition fails
abbrev pub unless_two : Entry → Option Why → Result Entry PairRefused
unless_two entry None = Ok entry
unless_two entry (Some why) = Err (NotEnabled why)

-- the entry that comes, or why none does: no process goes on; or the log is full; or a condition fails, the
-- first that does
abbrev pub pair_decide : PairSetting → Pair → ℕ → Choice → Result Entry PairRefused
pair_decide s m h c =
    if is_over m then Err Ended
    else if nat_le s.limits.steps m.made then Err Full
    else if nat_le s.limits.harts h then Err (NotEnabled NoHart)
    else unless_two (entry_two s m h c) (refusal_two s m h c)

-- HISTORIES

-- an entry, the process that acted, and what was done
pub record PairEvent : Type 0 where
  pub entry : Entry
  pub process : Bool
  pub done : Done

abbrev pub PairHistory : Type 0
PairHistory = List PairEvent

-- the pair after a history
abbrev pub pair_after : PairSetting → PairHistory → Pair
pair_after s [] = pair_start s
pair_after s (e ∷ before) = apply_two e.entry.hart.0 e.process e.done (pair_after s before)

-- an entry with what it does
abbrev pub event_two : PairSetting → PairHistory → Entry → PairEvent
event_two s before e =
    let m = pair_after s before in
    record { entry = e; process = acting m e.hart.0 (choice_of e); done = done_two s m e.hart.0 (choice_of e) }

-- a log, which has its oldest entry first, as a history
unfoldable pub pair_history : PairSetting → List Entry → PairHistory
pair_history s log = fold (λ before e. event_two s before e ∷ before) [] log

-- every entry is the one that is decided at its place, and did what is done there
abbrev pub IsPairRunHistory : PairSetting → PairHistory → Type 0
IsPairRunHistory s [] = Unit {0}
IsPairRunHistory s (e ∷ before) =
    IsPairRunHistory s before
    × (pair_decide s (pair_after s before) e.entry.hart.0 (choice_of e.entry) ≡ Ok e.entry)
    × (e ≡ event_two s before e.entry)

-- a pair run
abbrev pub IsPairRun : PairSetting → List Entry → Type 0
IsPairRun s log = IsPairRunHistory s (pair_history s log)

-- WHAT IS SEEN OF A PAIR

-- what a pair started from, and its log, with the oldest entry first; and where it stands
pub record PairSeen : Type 0 where
  pub setting : PairSetting
  pub log : List Entry

abbrev pub pair_seen : PairSeen → Pair
pair_seen v = pair_after v.setting (pair_history v.setting v.log)

-- how a process stands
abbrev pub state_of_end : Option End → ProcState
state_of_end None = Live
state_of_end (Some (over.Exit status)) = Exit status
state_of_end (Some (over.Killed signal)) = Killed signal
state_of_end (Some over.Stuck) = Live
state_of_end (Some over.Limit) = Live
state_of_end (Some over.Unended) = Live

abbrev pub proc_state : Pair → Bool → ProcState
proc_state m p = state_of_end (half p m).ended

-- whether an event ended a process, by how its run has ended: one of which no thread can go on has not
abbrev pub has_ended : Option End → Bool
has_ended None = false
has_ended (Some (over.Exit status)) = true
has_ended (Some (over.Killed signal)) = true
has_ended (Some over.Stuck) = false
has_ended (Some over.Limit) = true
has_ended (Some over.Unended) = true

-- what it wrote to its console
abbrev pub console_of : Pair → Bool → List ℕ
console_of m p = (half p m).kernel.console

-- how a pair ends that stops at this place
abbrev pub pair_end : PairSetting → Pair → PairEnd
pair_end s m =
    if is_some m.first.ended && is_some m.second.ended then BothEnded
    else if is_over m then Stuck
    else if nat_le s.limits.steps m.made then Limit
    else Unended
