-- Which event may come next, what it does, and how a run has ended.
use Rattle.std.specs.Prelude.{ℕ, List, [], ◌∷◌, if◌then◌else◌, Option, Some, None, length, nat_le, Result, Ok, Err, fold}
use Rattle.std.specs.Option.{option_map_or, option_or}
use Rattle.mach_types.specs.Events.{begun_by, choice_of, kind_of}
use Rattle.mach_types.specs.declared.events.Choice.{Choice}
use Rattle.mach_types.specs.declared.events.Entry.{Entry}
use Rattle.mach_types.specs.declared.events.Tid.{Tid}
use Rattle.mach_types.specs.declared.events.Why.{Why}
use Rattle.mach_types.specs.declared.events.Why.TheVariants.{NoHart}
use Rattle.mach_types.specs.declared.limits.End.{End}
use Rattle.mach_types.specs.declared.limits.End.TheVariants as over
use Rattle.block_model.specs.Record.{Kernel}
use Rattle.mach_types.specs.Kernel.Threads.{is_stuck}
use Rattle.block_model.specs.declared.refusals.Refused.{Refused}
use Rattle.block_model.specs.declared.refusals.Refused.TheVariants.{Ended, Full, NotEnabled}
use Rattle.block_model.specs.Setting.{Setting}
use Rattle.block_model.specs.Here.{Here, Done, runs}
use Rattle.block_model.specs.Events.{refusal_of, done_of}
use Rattle.block_model.specs.History.{Event, History, here_in_history, ended, kernel}

-- the thread that an entry names: the one that begins to run, else the one that runs on the hart; 0 where there is none
abbrev pub thread_in : Choice → Here → Option ℕ
thread_in c here = option_map_or (λ (t : Tid). Some t.0) (begun_by c) (runs here)

abbrev pub number_of : Option ℕ → ℕ
number_of None = 0
number_of (Some t) = t

-- its pc before the event, 0 where there is none
abbrev pub pc_in : Here → Option ℕ → ℕ
pc_in here None = 0
pc_in here (Some t) = (here.file t).pc

-- the entry of a choice
abbrev pub entry_in : Choice → Here → Entry
entry_in c here = record {
  hart = record { 0 = here.hart };
  kind = kind_of c;
  tid = record { 0 = number_of (thread_in c here) };
  pc = pc_in here (thread_in c here);
}

-- an entry, unless a condition fails
abbrev pub unless : Entry → Option Why → Result Entry Refused
unless entry None = Ok entry
unless entry (Some why) = Err (NotEnabled why)

-- how a run has ended: an event ended the process, or a thread is live and none runs or is ready
abbrev pub final : Option End → Kernel → Option End
final process k = option_or process (if is_stuck k.threads then Some over.Stuck else None)

-- the entry that comes where so many events were made, or why none does: the run has ended; or the log is full; or a condition
-- fails, the first that does
abbrev pub decide_in : ℕ → Option End → Choice → Here → Result Entry Refused
decide_in made (Some e) c here = Err (Ended e)
decide_in made None c here =
    if nat_le here.setting.limits.steps made then Err Full
    else if nat_le here.setting.limits.harts here.hart then Err (NotEnabled NoHart)
    else unless (entry_in c here) (refusal_of c here)

-- how a run has ended at a place
abbrev pub over_at : Setting → History → Option End
over_at s before = final (ended before) (kernel s before)

-- what the machine answers to a choice of hart h after a history
unfoldable pub decide : Setting → History → ℕ → Choice → Result Entry Refused
decide s before h c = decide_in (length before) (over_at s before) c (here_in_history s before h)

-- what an entry does after a history
unfoldable pub done : Setting → History → Entry → Done
done s before entry = done_of (choice_of entry) (here_in_history s before entry.hart.0)

-- an entry with what it does
abbrev pub event : Setting → History → Entry → Event
event s before entry = record { entry = entry; done = done s before entry }

-- a log, which has its oldest entry first, as a history
unfoldable pub history : Setting → List Entry → History
history s log = fold (λ before entry. event s before entry ∷ before) [] log

-- the end where nothing has ended the run: the step limit, or the script's end
abbrev pub end_unless : Setting → ℕ → Option End → End
end_unless s made (Some e) = e
end_unless s made None = if nat_le s.limits.steps made then over.Limit else over.Unended

-- how a run ends that stops at this place
unfoldable pub end_of : Setting → History → End
end_of s before = end_unless s (length before) (over_at s before)
