-- The facts of registers of threads other than that of the event (futex(2), clone(2)): of one that was woken, those that have another
-- value; of one that was created, those that differ from its parent's. They are read off the threads and their files before an event and
-- after it.
use Rattle.std.specs.Prelude.{ℕ, ◌≡◌, ◌+◌, ◌-◌, ◌==◌, List, [], ◌∷◌, ◌++◌, map, slice_get, unwrap_or, if◌then◌else◌, Option, Some, None}
use Rattle.std.specs.List.{flat_map, range_with_len}
use Rattle.std.specs.Option.{option_map}
use Rattle.mach_types.specs.Kernel.Threads.{Threads}
use Rattle.mach_types.specs.Registers.{register}
use Rattle.mach_types.specs.declared.registers.Regs.{Regs}
use Rattle.mach_types.specs.declared.threads.Saved.{Saved}
use Rattle.mach_types.specs.declared.threads.ThreadState.{ThreadState}
use Rattle.mach_types.specs.declared.threads.ThreadState.TheVariants.{Ready, Running, Waiting}
use Rattle.block_model.specs.Here.{Here, runs}
use Rattle.block_model.specs.Sights.{thread}
use Rattle.process.specs.Harts.{file_on}
use Rattle.fact_types.specs.declared.facts.Fact.{Fact}
use Rattle.fact_types.specs.declared.facts.Fact.TheVariants.{ThreadRegister}
use Rattle.event_facts.specs.Threads.{state_behind}
use Rattle.event_facts.specs.declared.other_registers.RegistersBefore.{RegistersBefore}

-- THE REGISTERS OF A THREAD

-- register n of thread t, where its value is another one
abbrev pub thread_register : ℕ → Regs → Regs → ℕ → List Fact
thread_register t before after n =
    if register before n == register after n then [] else ThreadRegister (thread t) n (register after n) ∷ []

-- x0 to x31, in order
abbrev pub thread_registers : ℕ → Regs → Regs → List Fact
thread_registers t before after = flat_map (thread_register t before after) (range_with_len 0 32)

-- those of a thread in this state that has this file: where it waits, where it is ready, and where it does one of the two
abbrev pub where_waiting : Option ThreadState → Saved → Option Regs
where_waiting None x = None
where_waiting (Some Ready) x = None
where_waiting (Some (Running h)) x = None
where_waiting (Some (Waiting at)) x = Some x.file

abbrev pub where_ready : Option ThreadState → Saved → Option Regs
where_ready None x = None
where_ready (Some Ready) x = Some x.file
where_ready (Some (Running h)) x = None
where_ready (Some (Waiting at)) x = None

abbrev pub where_off : Option ThreadState → Saved → Option Regs
where_off None x = None
where_off (Some Ready) x = Some x.file
where_off (Some (Running h)) x = None
where_off (Some (Waiting at)) x = Some x.file

-- those that are saved, where something is
abbrev pub registers_of : Option Saved → Option Regs
registers_of saved = option_map (λ (x : Saved). x.file) saved

-- of thread t, which waited with these registers and is ready with those; nothing where it didn't wait, or isn't ready
abbrev pub woken_registers : ℕ → Option Regs → Option Regs → List Fact
woken_registers t None after = []
woken_registers t (Some before) None = []
woken_registers t (Some before) (Some after) = thread_registers t before after

-- of thread t, whose number was given since, and whose parent had these registers; nothing where it isn't ready
abbrev pub child_registers : ℕ → Regs → Option Regs → List Fact
child_registers t parent None = []
child_registers t parent (Some own) = thread_registers t parent own

-- OF ALL THREADS, BY THEIR NUMBERS

-- the registers of the thread that has a number behind so many, where it waits, and where it is ready
abbrev pub waiting_behind : (ℕ → Saved) → Threads → ℕ → Option Regs
waiting_behind file ts k = where_waiting (state_behind ts k) (file (k + 1))

abbrev pub ready_behind : (ℕ → Saved) → Threads → ℕ → Option Regs
ready_behind file ts k = where_ready (state_behind ts k) (file (k + 1))

-- of one whose number was given before the event; and of one that has a number behind those
abbrev pub woken_fact : (ℕ → Saved) → Threads → (ℕ → Saved) → Threads → ℕ → List Fact
woken_fact had before has after k = woken_registers (k + 1) (waiting_behind had before k) (ready_behind has after k)

abbrev pub child_fact : ℕ → Regs → (ℕ → Saved) → Threads → ℕ → List Fact
child_fact given parent has after k = child_registers (given + k + 1) parent (ready_behind has after (given + k))

-- of all but the thread of the event, which had these registers before it
unfoldable pub other_registers : (ℕ → Saved) → Threads → Regs → (ℕ → Saved) → Threads → List Fact
other_registers had before own has after =
    flat_map (woken_fact had before has after) (range_with_len 0 before.given)
    ++ flat_map (child_fact before.given own has after) (range_with_len 0 (after.given - before.given))

-- AS CODE KEEPS THEM

-- the registers of the threads that wait, of all those to which numbers were given
abbrev pub all_waiting : (ℕ → Saved) → Threads → List (Option Regs)
all_waiting file ts = map (waiting_behind file ts) (range_with_len 0 ts.given)

-- they are those of a place, and so are those of its hart
pub record AreRegisters (here : Here) (x : RegistersBefore) : Type 0 where
  pub waiting : x.waiting.items ≡ all_waiting here.file here.kernel.threads
  pub own : x.own ≡ (file_on here (runs here)).file

-- of the thread with a number behind so many, where these waited
abbrev pub woken_from : List (Option Regs) → (ℕ → Saved) → Threads → ℕ → List Fact
woken_from kept has after k = woken_registers (k + 1) (unwrap_or (slice_get kept k) None) (ready_behind has after k)
