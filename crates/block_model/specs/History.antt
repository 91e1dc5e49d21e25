-- Histories: what happened, newest first, and what is read by looking back. What an event did says all that a look back needs.
use Rattle.std.specs.Prelude.{ℕ, ◌+◌, ◌==◌, List, [], ◌∷◌, ◌++◌, Bool, false, if◌then◌else◌, Option, None, drop}
use Rattle.std.specs.Option.{option_or}
use Rattle.mach_types.specs.declared.events.Entry.{Entry}
use Rattle.mach_types.specs.declared.limits.End.{End}
use Rattle.mach_types.specs.declared.threads.Saved.{Saved}
use Rattle.mach_types.specs.declared.user_memory.Store.{Store}
use Rattle.mach_types.specs.declared.user_memory.Write.{Write}
use Rattle.mach_types.specs.declared.user_memory.Write.TheVariants.{Stored, Zeroed}
use Rattle.mach_types.specs.Bytes.{written}
use Rattle.block_model.specs.Record.{Kernel}
use Rattle.mach_types.specs.Kernel.Threads.{running_on}
use Rattle.elf_load.specs.Start.{start_byte, start_file}
use Rattle.rv_inst.specs.Execution.{lost_by}
use Rattle.block_model.specs.Setting.{Setting}
use Rattle.block_model.specs.Kernel.{first_kernel}
use Rattle.block_model.specs.Here.{Here, Done, writable_in}
use Rattle.block_model.specs.Requests.{awaits_after, requests_after, restart_after}

-- an entry of the log, and what it did
pub record Event : Type 0 where
  pub entry : Entry
  pub done : Done

-- the newest event first
abbrev pub History : Type 0
History = List Event

-- whether an event is one of hart h
abbrev pub is_of_hart : ℕ → Event → Bool
is_of_hart h e = e.entry.hart.0 == h

-- the plain stores that hart h executed, in order
abbrev pub stores : ℕ → History → List Store
stores h [] = []
stores h (e ∷ before) = if is_of_hart h e then stores h before ++ e.done.executed else stores h before

-- how many of them have entered memory
abbrev pub drains : ℕ → History → ℕ
drains h [] = 0
drains h (e ∷ before) = if is_of_hart h e then drains h before + e.done.drained else drains h before

-- the stores of hart h that wait, the oldest first
abbrev pub waiting : ℕ → History → List Store
waiting h before = drop (drains h before) (stores h before)

-- a byte of memory: that of the last write that entered and has it, or else that of the start
abbrev pub byte : Setting → History → ℕ → ℕ
byte s [] a = start_byte s.program a
byte s (e ∷ before) a = written e.done.entered a (byte s before a)

-- a thread's file among those that an event set
abbrev pub file_among : List (ℕ × Saved) → ℕ → Saved → Saved
file_among [] t f = f
file_among (p ∷ ps) t f = if p.0 == t then p.1 else file_among ps t f

-- the file of thread t: what the last event that set it left
abbrev pub file : Setting → ℕ → History → Saved
file s t [] = start_file s.program
file s t (e ∷ before) = file_among e.done.files t (file s t before)

-- a reservation after a write of another hart or of the kernel
abbrev pub lost_to : Write → Option ℕ → Option ℕ
lost_to (Stored w) r = lost_by w.at w.size r
lost_to (Zeroed at n) r = lost_by at n r

abbrev pub lost_after : List Write → Option ℕ → Option ℕ
lost_after [] r = r
lost_after (w ∷ ws) r = lost_after ws (lost_to w r)

-- where the aligned 8 bytes begin that hart h has reserved: as its last event left it, until another hart writes there
abbrev pub reservation : ℕ → History → Option ℕ
reservation h [] = None
reservation h (e ∷ before) = if is_of_hart h e then e.done.reserved else lost_after e.done.entered (reservation h before)

-- the harts whose barriers have requests pending at hart h; whether one of these asks for a restart; and the harts that the barrier of
-- the thread on hart h waits for, where it waits in one
abbrev pub requests : ℕ → History → ℕ
requests h [] = 0
requests h (e ∷ before) = requests_after h e.entry.hart.0 e.done (requests h before)

abbrev pub restart : ℕ → History → Bool
restart h [] = false
restart h (e ∷ before) = restart_after h e.entry.hart.0 e.done (restart h before)

abbrev pub awaits : ℕ → History → Option ℕ
awaits h [] = None
awaits h (e ∷ before) = awaits_after h e.entry.hart.0 e.done (awaits h before)

-- the kernel's record
abbrev pub kernel : Setting → History → Kernel
kernel s [] = first_kernel s
kernel s (e ∷ before) = e.done.kernel

-- the thread that runs on hart h
abbrev pub running : Setting → ℕ → History → Option ℕ
running s h before = running_on h (kernel s before).threads

-- whether the byte at an address can be written
abbrev pub can_be_written : Setting → History → ℕ → Bool
can_be_written s before = writable_in (kernel s before)

-- the bytes on the console, in the order in which they were written
abbrev pub console : Setting → History → List ℕ
console s before = (kernel s before).console

-- how an event ended the process, if one did
abbrev pub ended : History → Option End
ended [] = None
ended (e ∷ before) = option_or e.done.ended (ended before)

-- how many events of hart h there were
abbrev pub events : ℕ → History → ℕ
events h [] = 0
events h (e ∷ before) = if is_of_hart h e then events h before + 1 else events h before

-- how many instructions hart h executed since a thread last began to run there, faults and calls too
abbrev pub ran : ℕ → History → ℕ
ran h [] = 0
ran h (e ∷ before) =
    if is_of_hart h e then (if e.done.started then 0 else ran h before) + e.done.instructions else ran h before

-- what a rule may read at the end of a history, where hart h is asked
abbrev pub here_in_history : Setting → History → ℕ → Here
here_in_history s before h = record {
  setting = s;
  hart = h;
  file = λ t. file s t before;
  byte = λ a. byte s before a;
  waiting = λ k. waiting k before;
  reserved = reservation h before;
  requests = requests h before;
  restart = restart h before;
  awaits = awaits h before;
  kernel = kernel s before;
  beside = None;
}
