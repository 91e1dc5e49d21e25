-- The machine step by step: a state of plain values, and what an event makes of it. It keeps what a log would have to be looked
-- back for, and never looks at a log (own).
use Rattle.std.specs.Prelude.{ℕ, ◌+◌, suc, zero, ◌==◌, Bool, false, List, [], ◌∷◌, ◌++◌, if◌then◌else◌, Option, Some, None, drop, Result, Ok, Err, fold}
use Rattle.std.specs.Option.{option_or}
use Rattle.mach_types.specs.Events.{choice_of}
use Rattle.mach_types.specs.declared.events.Choice.{Choice}
use Rattle.mach_types.specs.declared.events.Entry.{Entry}
use Rattle.mach_types.specs.declared.events.Tid.{Tid}
use Rattle.mach_types.specs.declared.limits.End.{End}
use Rattle.mach_types.specs.declared.threads.Saved.{Saved}
use Rattle.mach_types.specs.declared.user_memory.Store.{Store}
use Rattle.mach_types.specs.Bytes.{written}
use Rattle.block_model.specs.Record.{Kernel}
use Rattle.elf_load.specs.Start.{start_byte, start_file}
use Rattle.block_model.specs.declared.refusals.Refused.{Refused}
use Rattle.block_model.specs.Setting.{Setting, Seen}
use Rattle.block_model.specs.Kernel.{first_kernel}
use Rattle.block_model.specs.Here.{Here, Done}
use Rattle.block_model.specs.Events.{done_of}
use Rattle.block_model.specs.History.{file_among, lost_after}
use Rattle.block_model.specs.Deciding.{decide_in, final, end_unless}
use Rattle.block_model.specs.Replay.{Ask, is_as_said}
use Rattle.block_model.specs.Requests.{awaits_after, requests_after, restart_after}
use Rattle.block_model.specs.Solo.{solo_choice_in}

-- by hart: the stores that wait, the oldest first, the reservation, the requests that are pending and whether one asks for a restart,
-- what the thread's barrier waits for, how many events and how many instructions since a thread
-- began to run; by thread: its file; memory, byte by byte; the kernel's record; how many events were made; and how one ended
-- the process, if one did
pub record Plain : Type 0 where
  pub waiting : ℕ → List Store
  pub reserved : ℕ → Option ℕ
  pub requests : ℕ → ℕ
  pub restart : ℕ → Bool
  pub awaits : ℕ → Option ℕ
  pub events : ℕ → ℕ
  pub ran : ℕ → ℕ
  pub file : ℕ → Saved
  pub byte : ℕ → ℕ
  pub kernel : Kernel
  pub made : ℕ
  pub ended : Option End

-- the machine when the process starts
abbrev pub plain_start : Setting → Plain
plain_start s = record {
  waiting = λ h. [];
  reserved = λ h. None;
  requests = λ h. 0;
  restart = λ h. false;
  awaits = λ h. None;
  events = λ h. 0;
  ran = λ h. 0;
  file = λ t. start_file s.program;
  byte = λ a. start_byte s.program a;
  kernel = first_kernel s;
  made = 0;
  ended = None;
}

-- what a rule may read of the machine, where hart h is asked
abbrev pub here_in_plain : Setting → Plain → ℕ → Here
here_in_plain s m h = record {
  setting = s;
  hart = h;
  file = m.file;
  byte = m.byte;
  waiting = m.waiting;
  reserved = m.reserved h;
  requests = m.requests h;
  restart = m.restart h;
  awaits = m.awaits h;
  kernel = m.kernel;
  beside = None;
}

-- the machine after an event of hart h that did this
abbrev pub apply : ℕ → Done → Plain → Plain
apply h d m = record {
  waiting = λ k. if h == k then drop d.drained (m.waiting k ++ d.executed) else m.waiting k;
  reserved = λ k. if h == k then d.reserved else lost_after d.entered (m.reserved k);
  requests = λ k. requests_after k h d (m.requests k);
  restart = λ k. restart_after k h d (m.restart k);
  awaits = λ k. awaits_after k h d (m.awaits k);
  events = λ k. if h == k then m.events k + 1 else m.events k;
  ran = λ k. if h == k then (if d.started then 0 else m.ran k) + d.instructions else m.ran k;
  file = λ t. file_among d.files t (m.file t);
  byte = λ a. written d.entered a (m.byte a);
  kernel = d.kernel;
  made = suc m.made;
  ended = option_or d.ended m.ended;
}

-- the machine after an entry
abbrev pub plain_next : Setting → Plain → Entry → Plain
plain_next s m entry = apply entry.hart.0 (done_of (choice_of entry) (here_in_plain s m entry.hart.0)) m

-- the machine after a log
unfoldable pub plain_after : Setting → List Entry → Plain
plain_after s log = fold (plain_next s) (plain_start s) log

-- how its run has ended, and how it ends where it stops here
abbrev pub plain_over : Plain → Option End
plain_over m = final m.ended m.kernel

abbrev pub plain_end : Setting → Plain → End
plain_end s m = end_unless s m.made (plain_over m)

-- what the machine answers to a choice of hart h
abbrev pub plain_decide : Setting → Plain → ℕ → Choice → Result Entry Refused
plain_decide s m h c = decide_in m.made (plain_over m) c (here_in_plain s m h)

-- what its hart 0 chooses by the fixed rule of `solo`
abbrev pub plain_solo_choice : Setting → Plain → Option Choice
plain_solo_choice s m = solo_choice_in (record { here = here_in_plain s m 0; ran = m.ran 0 })

-- the plain machine that is seen, and what a rule may read of it where hart h is asked
abbrev pub plain_seen : Seen → Plain
plain_seen v = plain_after v.setting v.log

abbrev pub here_of : Seen → ℕ → Here
here_of v h = here_in_plain v.setting (plain_seen v) h

-- runs

-- a run of the machine: the entries that it made, in order, and the machine as it stands
pub record PlainRun : Type 0 where
  pub log : List Entry
  pub machine : Plain

-- the entry of a step, where it is as a line says
abbrev pub confirmed : Option (Tid × ℕ) → Result Entry Refused → Option Entry
confirmed check (Ok e) = if is_as_said check e then Some e else None
confirmed check (Err why) = None

-- the run with one more entry; where there is none, the number of the line that was to make it
abbrev pub gone_on : Setting → PlainRun → Option Entry → Result PlainRun ℕ
gone_on s run (Some e) = Ok (record { log = run.log ++ e ∷ []; machine = plain_next s run.machine e })
gone_on s run None = Err (run.machine.made + 1)

-- a run with one more line of a script: no line comes after one that is refused
abbrev pub plain_line : Setting → Result PlainRun ℕ → Ask → Result PlainRun ℕ
plain_line s (Ok run) line = gone_on s run (confirmed line.check (plain_decide s run.machine line.hart.0 line.choice))
plain_line s (Err n) line = Err n

abbrev pub plain_begin : Setting → PlainRun
plain_begin s = record { log = []; machine = plain_start s }

-- the machine's run over the lines of a script, from its start, or the number of the first line that is refused
unfoldable pub plain_run : Setting → List Ask → Result PlainRun ℕ
plain_run s lines = fold (plain_line s) (Ok (plain_begin s)) lines

-- the entries of a run, or the number of the line that was refused
abbrev pub log_made : Result PlainRun ℕ → Result (List Entry) ℕ
log_made (Ok run) = Ok run.log
log_made (Err n) = Err n

-- a run with one more step of hart 0 by the fixed rule: it stays as it is where its step is refused, and where the rule has
-- no choice
abbrev pub solo_gone_on : Setting → PlainRun → Result Entry Refused → PlainRun
solo_gone_on s run (Ok e) = record { log = run.log ++ e ∷ []; machine = plain_next s run.machine e }
solo_gone_on s run (Err why) = run

abbrev pub solo_chosen : Setting → PlainRun → Option Choice → PlainRun
solo_chosen s run (Some c) = solo_gone_on s run (plain_decide s run.machine 0 c)
solo_chosen s run None = run

-- the machine's run by the fixed rule, from its start, so many steps
unfoldable pub plain_solo : Setting → ℕ → PlainRun
plain_solo s zero = plain_begin s
plain_solo s (suc n) = solo_chosen s (plain_solo s n) (plain_solo_choice s (plain_solo s n).machine)
