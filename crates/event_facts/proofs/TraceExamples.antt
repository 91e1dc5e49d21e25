-- Worked examples, proved by computation: what is told of each line of a log with system calls, of one with a fault, of one with two
-- threads, of one with a signal, and of one with an area.
use Rattle.std.proofs.Common.{◌≡◌, ℕ, ◌-◌, ◌^◌, List, [], ◌∷◌, ◌++◌, refl}
use Rattle.mach_types.specs.Kernel.Areas.{are_readable, number_at}
use Rattle.mach_types.specs.Kernel.Signals.{all_signals}
use Rattle.mach_types.specs.declared.events.Entry.{Entry}
use Rattle.mach_types.specs.declared.events.Kind.{Kind}
use Rattle.mach_types.specs.declared.events.Kind.TheVariants as kind
use Rattle.rv_inst.specs.Meaning.{meaning}
use Rattle.rv_inst.specs.Table.{row_of, rows}
use Rattle.block_model.specs.Deciding.{done, end_of, event}
use Rattle.block_model.specs.History.{History}
use Rattle.block_model.specs.Setting.{Setting}
use Rattle.block_model.specs.Sights.{thread}
use Rattle.block_model.proofs.ExamplePrograms.{code_and_data, entry as by, entry_of, within_frames}
use Rattle.fact_types.specs.declared.areas.AreaField.TheVariants.{CpuIdStart, CpuId, NodeId, MmCid}
use Rattle.fact_types.specs.declared.calls.SystemCall.{SystemCall}
use Rattle.fact_types.specs.declared.facts.Fact.{Fact}
use Rattle.fact_types.specs.declared.facts.Fact.TheVariants.{Register, KernelWrote, Faulted, Called, Answered, Refused, NoAnswer, Interrupted, DeliveryKills, SignalPosted, ThreadChanged, ThreadRegister, AreaWord, Killed}
use Rattle.fact_types.specs.declared.faults.FaultWhy.TheVariants.{NotReadable}
use Rattle.fact_types.specs.declared.interruptions.Interruption.TheVariants.{Nothing}
use Rattle.fact_types.specs.declared.killing.KillWhy.TheVariants.{NoHandler}
use Rattle.fact_types.specs.declared.threads.ThreadChange.{ThreadChange}
use Rattle.fact_types.specs.declared.threads.ThreadChange.TheVariants.{Created, Ended, Runs, MadeReady}
use Rattle.event_facts.specs.Facts.{facts_of, read_facts}
use Rattle.event_facts.specs.OtherRegisters.{other_registers}
use Rattle.event_facts.specs.Pending.{signal_facts}
use Rattle.event_facts.specs.Threads.{thread_facts}
use Rattle.event_facts.specs.Trace.{trace_of}

-- a program of these instructions, which stand at 0x100B0, with a page of zeros at 0x20000
abbrev program : List ℕ → Setting
program code = within_frames 128 (code_and_data code)

abbrev by_thread : ℕ → Kind → ℕ → Entry
by_thread t k pc = entry_of 0 k t pc

-- what became of a thread
abbrev became : ℕ → ThreadChange → Fact
became t change = ThreadChanged (thread t) change

-- it begins to run, and executes four instructions
abbrev begins : List Entry
begins = by kind.Run 0x100B0 ∷ by kind.Exec 0x100B0 ∷ by kind.Exec 0x100B4 ∷ by kind.Exec 0x100B8 ∷ by kind.Exec 0x100BC ∷ []

-- a call with these in a0 to a2, and 0 in the others
abbrev call : ℕ → ℕ → ℕ → ℕ → SystemCall
call number a0 a1 a2 = record { number = number; arguments = a0 ∷ a1 ∷ a2 ∷ 0 ∷ 0 ∷ 0 ∷ [] }

-- what is told of each line
abbrev told : Setting → History → List Entry → List (List Fact)
told s before [] = []
told s before (e ∷ es) = trace_of s before e ∷ told s (event s before e ∷ before) es

-- it writes the 2 bytes at 0x20000 to the console, makes call 500, which isn't there, and exits
abbrev calls : List ℕ
calls =
    0x93 ∷ 0x08 ∷ 0x00 ∷ 0x04 ∷ 0x13 ∷ 0x05 ∷ 0x10 ∷ 0x00 ∷ 0xB7 ∷ 0x05 ∷ 0x02 ∷ 0x00 ∷ 0x13 ∷ 0x06 ∷ 0x20 ∷ 0x00 ∷
    0x73 ∷ 0x00 ∷ 0x00 ∷ 0x00 ∷ 0x93 ∷ 0x08 ∷ 0x40 ∷ 0x1F ∷ 0x73 ∷ 0x00 ∷ 0x00 ∷ 0x00 ∷ 0x93 ∷ 0x08 ∷ 0xD0 ∷ 0x05 ∷
    0x73 ∷ 0x00 ∷ 0x00 ∷ 0x00 ∷ []

abbrev log : List Entry
log =
    begins
    ++ by kind.Exec 0x100C0 ∷ by kind.Exec 0x100C4 ∷ by kind.Exec 0x100C8 ∷ by kind.Exec 0x100CC ∷ by kind.Exec 0x100D0 ∷ []

-- ENOSYS is 38
calls_told : told (program calls) [] log ≡
    (Interrupted Nothing ∷ became 1 Runs ∷ [])
    ∷ (Register 17 64 ∷ [])
    ∷ (Register 10 1 ∷ [])
    ∷ (Register 11 0x20000 ∷ [])
    ∷ (Register 12 2 ∷ [])
    ∷ (Called (call 64 1 0x20000 2) ∷ Answered 2 ∷ Register 10 2 ∷ [])
    ∷ (Register 17 500 ∷ [])
    ∷ (Called (call 500 2 0x20000 2) ∷ Refused 38 ∷ Register 10 (2 ^ 64 - 38) ∷ [])
    ∷ (Register 17 93 ∷ [])
    ∷ (Called (call 93 (2 ^ 64 - 38) 0x20000 2) ∷ NoAnswer ∷ [])
    ∷ []
unfolding trace_of signal_facts thread_facts other_registers facts_of read_facts done end_of meaning row_of rows are_readable number_at
calls_told = refl

-- it loads 8 bytes at 8, where nothing can be read: SIGSEGV, which is 11
fault_told : told (program (0x03 ∷ 0x33 ∷ 0x80 ∷ 0x00 ∷ [])) [] (by kind.Run 0x100B0 ∷ by kind.Exec 0x100B0 ∷ [])
    ≡ (Interrupted Nothing ∷ became 1 Runs ∷ []) ∷ (Faulted 11 NotReadable 8 ∷ Killed NoHandler ∷ []) ∷ []
unfolding trace_of signal_facts thread_facts other_registers facts_of read_facts done end_of meaning row_of rows are_readable number_at
fault_told = refl

-- it makes a thread by clone with the flags that must be given. It leaves its hart, where the child runs then and exits
abbrev child : List ℕ
child =
    0x93 ∷ 0x08 ∷ 0xC0 ∷ 0x0D ∷ 0x37 ∷ 0x15 ∷ 0x01 ∷ 0x00 ∷ 0x13 ∷ 0x05 ∷ 0x05 ∷ 0xF0 ∷ 0x73 ∷ 0x00 ∷ 0x00 ∷ 0x00 ∷
    0x93 ∷ 0x08 ∷ 0xD0 ∷ 0x05 ∷ 0x73 ∷ 0x00 ∷ 0x00 ∷ 0x00 ∷ []

abbrev child_log : List Entry
child_log =
    begins
    ++ by kind.Preempt 0x100C0 ∷ by_thread 2 kind.Run 0x100C0 ∷ by_thread 2 kind.Exec 0x100C0 ∷ by_thread 2 kind.Exec 0x100C4 ∷ []

threads_told : told (program child) [] child_log ≡
    (Interrupted Nothing ∷ became 1 Runs ∷ [])
    ∷ (Register 17 220 ∷ [])
    ∷ (Register 10 0x11000 ∷ [])
    ∷ (Register 10 0x10F00 ∷ [])
    ∷ (Called (call 220 0x10F00 0 0) ∷ Answered 2 ∷ became 2 Created ∷ ThreadRegister (thread 2) 10 0 ∷ Register 10 2 ∷ [])
    ∷ (became 1 MadeReady ∷ [])
    ∷ (Interrupted Nothing ∷ became 2 Runs ∷ [])
    ∷ (Register 17 93 ∷ [])
    ∷ (Called (call 93 0 0 0) ∷ NoAnswer ∷ became 2 Ended ∷ [])
    ∷ []
unfolding trace_of signal_facts thread_facts other_registers facts_of read_facts done end_of meaning row_of rows are_readable number_at
threads_told = refl

-- it sends itself SIGUSR1, which is 10, by tkill; that has no handler
abbrev sends : List ℕ
sends =
    0x93 ∷ 0x08 ∷ 0x20 ∷ 0x08 ∷ 0x13 ∷ 0x05 ∷ 0x10 ∷ 0x00 ∷ 0x93 ∷ 0x05 ∷ 0xA0 ∷ 0x00 ∷ 0x73 ∷ 0x00 ∷ 0x00 ∷ 0x00 ∷ []

abbrev signal_log : List Entry
signal_log = begins ++ by kind.Signal 0x100C0 ∷ []

signals_told : told (program sends) [] signal_log ≡
    (Interrupted Nothing ∷ became 1 Runs ∷ [])
    ∷ (Register 17 130 ∷ [])
    ∷ (Register 10 1 ∷ [])
    ∷ (Register 11 10 ∷ [])
    ∷ (Called (call 130 1 10 0) ∷ Answered 0 ∷ SignalPosted 10 (thread 1) ∷ Register 10 0 ∷ [])
    ∷ (Interrupted Nothing ∷ DeliveryKills 10 ∷ Killed NoHandler ∷ [])
    ∷ []
unfolding all_signals trace_of signal_facts thread_facts other_registers facts_of read_facts done end_of meaning row_of rows are_readable number_at
signals_told = refl

-- it registers the area at 0x20000 by rseq, which is call 293. It leaves its hart, and goes on on hart 1
abbrev registers : List ℕ
registers =
    0x93 ∷ 0x08 ∷ 0x50 ∷ 0x12 ∷ 0x37 ∷ 0x05 ∷ 0x02 ∷ 0x00 ∷ 0x93 ∷ 0x05 ∷ 0x00 ∷ 0x02 ∷ 0x73 ∷ 0x00 ∷ 0x00 ∷ 0x00 ∷ []

abbrev area_log : List Entry
area_log = begins ++ by kind.Preempt 0x100C0 ∷ entry_of 1 kind.Run 1 0x100C0 ∷ []

-- the kernel's words of the area of a thread on a hart, which hold the id 0
abbrev word : ℕ → ℕ → ℕ → Fact
word line at value = KernelWrote (record { at = at; size = 4; value = value }) line

abbrev words : ℕ → ℕ → List Fact
words line hart = word line 0x20000 hart ∷ word line 0x20004 hart ∷ word line 0x20014 0 ∷ word line 0x20018 0 ∷ []

areas_told : told (program registers) [] area_log ≡
    (Interrupted Nothing ∷ became 1 Runs ∷ [])
    ∷ (Register 17 293 ∷ [])
    ∷ (Register 10 0x20000 ∷ [])
    ∷ (Register 11 32 ∷ [])
    ∷ (Called (call 293 0x20000 32 0) ∷ Answered 0
    ∷ AreaWord CpuIdStart 0 ∷ AreaWord CpuId 0 ∷ AreaWord NodeId 0 ∷ AreaWord MmCid 0 ∷ words 5 0 ++ Register 10 0 ∷ [])
    ∷ (became 1 MadeReady ∷ [])
    ∷ (Interrupted Nothing ∷ became 1 Runs ∷ AreaWord CpuIdStart 1 ∷ AreaWord CpuId 1 ∷ words 7 1)
    ∷ []
unfolding trace_of signal_facts thread_facts other_registers facts_of read_facts done end_of meaning row_of rows are_readable number_at
areas_told = refl
