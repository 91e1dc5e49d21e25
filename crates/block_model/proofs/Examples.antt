-- Worked examples, proved by computation: what small programs do, read off a log and done by the plain machine.
use Rattle.block_model.proofs.Common.{◌≡◌, ℕ, ◌-◌, ◌^◌, List, [], ◌∷◌, ◌++◌, replicate, map, refl, true, false, Option, Some, None, Result, Ok, Err, Ask, CallDone, Choice, Entry, Here, History, Idle, IsSolo, NoHart, NoRequest, NoSignal, NotAllowed, NotEnabled, NotInBarrier, NotReady, Refused, Setting, Store, Stored, ThreadState, Threads, Write, Zeroed, all_signals, called, can_be_written, clear_of, decide, done, end_of, entry_in, events, file, final, first_ready, here_in_history, history, is_local_on, is_register_only, is_stuck, kernel, left, lost_after, meaning, memory, no_registers, nothing, plain_after, plain_solo, played, ran, refusal_run, register, row_of, rows, running, sight_in, solo_choice, solo_rule, start_threads, state_of, view, with_register, with_state, Sight}
use Rattle.mach_types.specs.declared.events.Choice.TheVariants as asked
use Rattle.mach_types.specs.declared.events.Kind.TheVariants as kind
use Rattle.mach_types.specs.declared.events.Why.TheVariants.{Busy, NoStore}
use Rattle.mach_types.specs.declared.limits.End.TheVariants as over
use Rattle.mach_types.specs.declared.threads.ThreadState.TheVariants as state
use Rattle.rv_inst.specs.declared.effects.Effect.TheVariants as effect
use Rattle.chooser.proofs.Sights.{idle}
use Rattle.block_model.specs.Calls.Limits.{limit_of}
use Rattle.block_model.specs.History.{reservation}
use Rattle.block_model.specs.Instruction.{next_fault}
use Rattle.block_model.specs.Sights.{effect_here}
use Rattle.block_model.proofs.ExamplePrograms.{code_and_data, entry, line, outcome}

-- a program of one segment that is read and executed, its code at 0x10078
abbrev code_alone : List ℕ → Setting
code_alone code = record (code_and_data code) {
  program = record {
    pages = record { number = 0x10; perm = 5; bytes = replicate 0x78 0 ++ code } ∷ [];
    entry = 0x10078;
    phdr = 0x10040;
    phnum = 1;
    break_at = 0x11000;
  };
}

-- lines of hart 0: it runs thread 1, executes so many instructions, drains so many stores
abbrev starts : Ask
starts = line (asked.Run (record { 0 = 1 }))

abbrev execs : ℕ → List Ask
execs n = replicate n (line asked.Exec)

abbrev drains : ℕ → List Ask
drains n = replicate n (line asked.Drain)

-- `addi x10, x0, 7`, `addi x17, x0, 93`, `ecall`: exits with 7
abbrev exits : Setting
exits = code_alone (0x13 ∷ 0x05 ∷ 0x70 ∷ 0x00 ∷ 0x93 ∷ 0x08 ∷ 0xD0 ∷ 0x05 ∷ 0x73 ∷ 0x00 ∷ 0x00 ∷ 0x00 ∷ [])

exit_log : List Entry
exit_log = entry kind.Run 0x10078 ∷ entry kind.Exec 0x10078 ∷ entry kind.Exec 0x1007C ∷ entry kind.Exec 0x10080 ∷ []

-- no event comes after the end
exit_run :
    (played exits (starts ∷ execs 3) ≡ Ok exit_log)  -- exit played
    × (end_of exits (history exits exit_log) ≡ over.Exit 7)  -- exit ends
    × ((plain_solo exits 200).log ≡ exit_log)  -- exit solo
    × (played exits (starts ∷ execs 4) ≡ Err 5)  -- exit over
unfolding exit_log played decide history done end_of all_signals plain_solo plain_after meaning row_of rows
exit_run = (refl, refl, refl, refl)

-- why an event is refused after the first so many entries of that log: an idle hart executes nothing and its thread can't leave;
-- a hart that the machine doesn't have; a second `run`; a thread that isn't there, and one that runs elsewhere; no store to
-- drain; and what no barrier and no signal makes
abbrev answer : List Entry → ℕ → Choice → Result Entry Refused
answer log h c = decide exits (history exits log) h c

abbrev begun : List Entry
begun = entry kind.Run 0x10078 ∷ []

abbrev first : Choice
first = asked.Run (record { 0 = 1 })

refused_choices :
    (answer [] 0 asked.Exec ≡ Err (NotEnabled Idle))  -- idle executes
    × (answer [] 0 asked.Preempt ≡ Err (NotEnabled Idle))  -- idle leaves
    × (answer [] 0 asked.Take ≡ Err (NotEnabled NoRequest))  -- idle takes
    × (answer [] 0 asked.Done ≡ Err (NotEnabled Idle))  -- idle returns
    × (answer [] 0 asked.Signal ≡ Err (NotEnabled Idle))  -- idle signal
    × (answer [] 2 first ≡ Err (NotEnabled NoHart))  -- third hart
    × (answer [] 0 (asked.Run (record { 0 = 0 })) ≡ Err (NotEnabled NotReady))  -- no thread 0
    × (answer [] 0 (asked.Run (record { 0 = 2 })) ≡ Err (NotEnabled NotReady))  -- no second thread
    × (answer begun 0 first ≡ Err (NotEnabled Busy))  -- busy
    × (answer begun 1 first ≡ Err (NotEnabled NotReady))  -- runs elsewhere
    × (answer begun 0 asked.Drain ≡ Err (NotEnabled NoStore))  -- nothing to drain
    × (answer begun 0 asked.Take ≡ Err (NotEnabled NoRequest))  -- no request
    × (answer begun 0 asked.Done ≡ Err (NotEnabled NotInBarrier))  -- no barrier
unfolding decide history done
refused_choices = (refl, refl, refl, refl, refl, refl, refl, refl, refl, refl, refl, refl, refl)

no_signal : answer begun 0 asked.Signal ≡ Err (NotEnabled NoSignal)
unfolding all_signals decide history done
no_signal = refl

-- where the affinity of thread 1 is hart 1 alone, hart 0 may not run it, and finds no thread to run
abbrev on_hart_1 : Here
on_hart_1 =
    let here = here_in_history exits [] 0 in
    record here { kernel = record (kernel exits []) { scheduling = record { order = 1 ∷ []; affinities = (1, 2) ∷ [] } } }

by_affinity :
    (refusal_run on_hart_1 1 ≡ Some NotAllowed)  -- not allowed
    × (refusal_run (record on_hart_1 { hart = 1 }) 1 ≡ None)  -- allowed
    × (first_ready on_hart_1 ≡ None)  -- none for hart 0
    × (first_ready (record on_hart_1 { hart = 1 }) ≡ Some (record { 0 = 1 }))  -- one for hart 1
by_affinity = (refl, refl, refl, refl)

-- a run and a preempt move the thread's state and the ready list; the hart counts its events, and instructions from the run on
abbrev left_log : List Entry
left_log = begun ++ (entry kind.Exec 0x10078 ∷ entry kind.Preempt 0x1007C ∷ [])

abbrev thread_1 : Setting → List Entry → Option ThreadState × List ℕ
thread_1 s log = (state_of 1 (kernel s (history s log)).threads, (kernel s (history s log)).scheduling.order)

thread_states :
    (thread_1 exits [] ≡ (Some state.Ready, 1 ∷ []))  -- at start
    × (thread_1 exits begun ≡ (Some (state.Running (record { 0 = 0 })), []))  -- when begun
    × (thread_1 exits left_log ≡ (Some state.Ready, 1 ∷ []))  -- when left
    × (running exits 0 (history exits begun) ≡ Some 1)  -- runs on 0
    × (running exits 1 (history exits begun) ≡ None)  -- runs not on 1
    × (running exits 0 (history exits left_log) ≡ None)  -- runs no more
    × (events 0 (history exits left_log) ≡ 3)  -- counted events
    × (ran 0 (history exits left_log) ≡ 1)  -- counted instructions
    × (ran 0 (history exits (left_log ++ entry kind.Run 0x1007C ∷ [])) ≡ 0)  -- counted again
    × ((file exits 1 (history exits left_log)).pc ≡ 0x1007C)  -- kept pc
unfolding history done meaning row_of rows
thread_states = (refl, refl, refl, refl, refl, refl, refl, refl, refl, refl)

-- a thread that leaves is the last ready one
last_ready : (left 1 (record (kernel exits []) { scheduling = record { order = 2 ∷ 3 ∷ []; affinities = [] } })).scheduling.order ≡ 2 ∷ 3 ∷ 1 ∷ []
last_ready = refl

-- a word that is no instruction, a word that isn't in executable memory, and an address that isn't a multiple of 4 are faults
-- of signals 4, 11, 7
abbrev illegal : Setting
illegal = code_alone (0x73 ∷ 0x10 ∷ 0x40 ∷ 0xF1 ∷ [])

abbrev fault_at : ℕ → Option ℕ
fault_at pc =
    let here = here_in_history illegal [] 0 in
    next_fault illegal.program.pages (memory here) (λ a. true) (record { file = no_registers; pc = pc })

fetch_faults :
    (fault_at 0x10078 ≡ Some 4)  -- no instruction
    × (fault_at 0x20000 ≡ Some 11)  -- not executable
    × (fault_at 0x1007A ≡ Some 7)  -- not aligned
    × (fault_at 0x20002 ≡ Some 7)  -- not aligned first
unfolding meaning row_of rows
fetch_faults = (refl, refl, refl, refl)

-- a jump to an address that isn't a multiple of 4 is a fault of the jump, which isn't local then
abbrev jumps : Setting
jumps = code_alone (0x6F ∷ 0x00 ∷ 0x20 ∷ 0x00 ∷ [])

jump_is_not_local : is_local_on (here_in_history jumps [] 0) (Some 1) ≡ false
unfolding is_register_only meaning row_of rows
jump_is_not_local = refl

-- what a page lets be done: the code can be read and not written, the stack both, and an address that isn't mapped neither
abbrev reads : ℕ → Option ℕ
reads a = memory (here_in_history exits [] 0) a

page_permissions :
    (reads 0x1007A ≡ Some 0x70)  -- code is read
    × (reads 0x20000 ≡ None)  -- unmapped is not read
    × (can_be_written exits [] 0x10078 ≡ false)  -- code is not written
    × (can_be_written exits [] 0x3FFFF3FFF8 ≡ true)  -- stack is written
    × (can_be_written exits [] 0x20000 ≡ false)  -- unmapped is not written
page_permissions = (refl, refl, refl, refl, refl)

-- `lui x8, 0x20` and nine stores to 0x20000
abbrev stores_nine : Setting
stores_nine = code_and_data (0x37 ∷ 0x04 ∷ 0x02 ∷ 0x00 ∷ 0x23 ∷ 0x30 ∷ 0x04 ∷ 0x00 ∷ 0x23 ∷ 0x30 ∷ 0x04 ∷ 0x00 ∷ 0x23 ∷ 0x30 ∷ 0x04 ∷ 0x00 ∷ 0x23 ∷ 0x30 ∷ 0x04 ∷ 0x00 ∷ 0x23 ∷ 0x30 ∷ 0x04 ∷ 0x00 ∷ 0x23 ∷ 0x30 ∷ 0x04 ∷ 0x00 ∷ 0x23 ∷ 0x30 ∷ 0x04 ∷ 0x00 ∷ 0x23 ∷ 0x30 ∷ 0x04 ∷ 0x00 ∷ 0x23 ∷ 0x30 ∷ 0x04 ∷ 0x00 ∷ [])

-- `lr.d` and `sc.d` of 0x20000, with something between them, and an exit with what `sc.d` answered
abbrev reserves : List ℕ → Setting
reserves between = code_and_data ((0x37 ∷ 0x04 ∷ 0x02 ∷ 0x00 ∷ 0xAF ∷ 0x32 ∷ 0x04 ∷ 0x10 ∷ []) ++ (between ++ (0x2F ∷ 0x33 ∷ 0x54 ∷ 0x18 ∷ 0x13 ∷ 0x05 ∷ 0x03 ∷ 0x00 ∷ 0x93 ∷ 0x08 ∷ 0xD0 ∷ 0x05 ∷ 0x73 ∷ 0x00 ∷ 0x00 ∷ 0x00 ∷ [])))

-- a store of the same hart to the reserved bytes leaves the reservation
own_store : outcome (reserves (0x23 ∷ 0x30 ∷ 0x04 ∷ 0x00 ∷ [])) (played (reserves (0x23 ∷ 0x30 ∷ 0x04 ∷ 0x00 ∷ [])) (starts ∷ (execs 3 ++ (drains 1 ++ execs 4)))) ≡ Ok ([], over.Exit 0)
unfolding played decide history done end_of meaning row_of rows
own_store = refl

-- where a reservation of 8 bytes from 0x20000 on ends: at a write to one of them, and not at one beside them or of no bytes
abbrev after : Write → Option ℕ
after w = lost_after (w ∷ []) (Some 0x20000)

abbrev stored : ℕ → ℕ → Write
stored at size = Stored (record { at = at; size = size; value = 7 })

reservation_after_writes :
    (after (stored 0x20007 1) ≡ None)  -- write inside
    × (after (stored 0x1FFFF 2) ≡ None)  -- write across
    × (after (stored 0x1FFF8 8) ≡ Some 0x20000)  -- write before
    × (after (stored 0x20008 8) ≡ Some 0x20000)  -- write behind
    × (after (Zeroed 0x20000 4096) ≡ None)  -- page of zeros
    × (after (Zeroed 0x20000 0) ≡ Some 0x20000)  -- no zeros
reservation_after_writes = (refl, refl, refl, refl, refl, refl)

-- the same in a history: hart 0 has reserved these bytes, and then hart 1 writes
abbrev reserved_then : Write → History
reserved_then w =
    let quiet = nothing (here_in_history exits [] 0) in
    record { entry = record (entry kind.Drain 0) { hart = record { 0 = 1 } }; done = record quiet { drained = 1; entered = w ∷ [] } }
    ∷ record { entry = entry kind.Exec 0; done = record quiet { reserved = Some 0x20000 } } ∷ []

reservation_by_harts :
    (reservation 0 (reserved_then (stored 0x20004 4)) ≡ None)  -- other hart inside
    × (reservation 0 (reserved_then (stored 0x20008 8)) ≡ Some 0x20000)  -- other hart behind
reservation_by_harts = (refl, refl)

-- of two waiting stores the youngest that has a byte is seen; where memory can't be read nothing is
abbrev waits : List Store → Here
waits ws = record (here_in_history stores_nine [] 0) { waiting = λ k. ws }

abbrev store : ℕ → ℕ → ℕ → Store
store at size value = record { at = at; size = size; value = value }

seen_of_waiting_stores :
    (view (waits (store 0x20000 4 7 ∷ store 0x20000 1 8 ∷ [])) 0x20000 ≡ Some 8)  -- youngest
    × (view (waits (store 0x20000 4 0x700 ∷ store 0x20000 1 8 ∷ [])) 0x20001 ≡ Some 7)  -- older beside it
    × (view (waits (store 0x20000 4 7 ∷ [])) 0x20004 ≡ Some 0)  -- memory below
    × (view (waits (store 0x30000 1 7 ∷ [])) 0x30000 ≡ None)  -- not seen
seen_of_waiting_stores = (refl, refl, refl, refl)

-- calls of thread 3 with a number and three arguments, of a process in which bytes stand on the console: the threads whose files
-- they set, with their a0 and pc
abbrev asks : ℕ → ℕ → ℕ → ℕ → ℕ → Here
asks held number a0 a1 a2 =
    let here = here_in_history exits [] 0 in
    record here {
      file = λ t. record { file = with_register (with_register (with_register (with_register no_registers 17 number) 10 a0) 11 a1) 12 a2; pc = 0x10080 };
      kernel = record (kernel exits []) { console = replicate held 0x2E };
    }

abbrev answered : CallDone → List (ℕ × ℕ × ℕ)
answered c = map (λ p. (p.0, register p.1.file 10, p.1.pc)) c.files

abbrev negative : ℕ → ℕ
negative n = 2 ^ 64 - n

-- `set_tid_address` answers the thread's number, and sets the address that its exit clears
numbers_answered :
    (answered (called (asks 0 172 5 0 0) 3) ≡ (3, 1, 0x10084) ∷ [])  -- process number
    × (answered (called (asks 0 178 5 0 0) 3) ≡ (3, 3, 0x10084) ∷ [])  -- thread number
    × (answered (called (asks 0 1000 5 0 0) 3) ≡ (3, negative 38, 0x10084) ∷ [])  -- unknown call
    × (answered (called (asks 0 96 0x20000 0 0) 3) ≡ (3, 3, 0x10084) ∷ [])  -- clear answer
    × (clear_of 1 (called (asks 0 96 0x20000 0 0) 1).kernel.threads ≡ 0x20000)  -- clear address
    × (clear_of 1 (called (asks 0 96 0x20000 0 0) 3).kernel.threads ≡ 0)  -- clear of another
numbers_answered = (refl, refl, refl, refl, refl, refl)

-- what `write` does: three bytes of the code come to the console, behind what stands there; a descriptor is the low 32 bits of its
-- register; what it tests, in order: the descriptor, the length, the address, and the room
write_calls :
    ((called (asks 1 64 1 0x10078 3) 3).kernel.console ≡ 0x2E ∷ 0x13 ∷ 0x05 ∷ 0x70 ∷ [])  -- wrote three
    × (answered (called (asks 1 64 1 0x10078 3) 3) ≡ (3, 3, 0x10084) ∷ [])  -- answers three
    × (answered (called (asks 0 64 2 0x10078 3) 3) ≡ (3, 3, 0x10084) ∷ [])  -- to standard error
    × (answered (called (asks 0 64 0x100000001 0x10078 3) 3) ≡ (3, 3, 0x10084) ∷ [])  -- low 32 bits
    × (answered (called (asks 65536 64 3 0x30000 0) 3) ≡ (3, negative 9, 0x10084) ∷ [])  -- bad descriptor
    × (answered (called (asks 65536 64 2 0x30000 0) 3) ≡ (3, 0, 0x10084) ∷ [])  -- nothing to write
    × (answered (called (asks 65536 64 1 0x30000 1) 3) ≡ (3, negative 14, 0x10084) ∷ [])  -- bad address
    × (answered (called (asks 0 64 1 0x10FFF 2) 3) ≡ (3, negative 14, 0x10084) ∷ [])  -- bad last byte
    × (answered (called (asks 65536 64 1 0x10078 1) 3) ≡ (3, negative 28, 0x10084) ∷ [])  -- no room
    × (answered (called (asks 65530 64 1 0x10078 10) 3) ≡ (3, 6, 0x10084) ∷ [])  -- cut to room
write_calls = (refl, refl, refl, refl, refl, refl, refl, refl, refl, refl)

-- what calls that only ask do: the size of the window is written, to a page of the stack; what `ioctl` tests, in order; the numbers of
-- the parent and the user; priorities of policies; limits, and that none can be changed
asking_calls :
    (answered (called (asks 0 29 1 0x5413 0x3FFFF00000) 3) ≡ (3, 0, 0x10084) ∷ [])  -- window answered
    × ((called (asks 0 29 1 0x5413 0x3FFFF00000) 3).entered ≡ Stored (record { at = 0x3FFFF00000; size = 8; value = 0x500019 }) ∷ [])  -- window written
    × (answered (called (asks 0 29 3 0x5401 0) 3) ≡ (3, negative 9, 0x10084) ∷ [])  -- bad descriptor
    × (answered (called (asks 0 29 2 0x5401 0) 3) ≡ (3, negative 25, 0x10084) ∷ [])  -- another request
    × (answered (called (asks 0 29 0 0x5413 0x10078) 3) ≡ (3, negative 14, 0x10084) ∷ [])  -- bad address
    × (answered (called (asks 0 173 5 0 0) 3) ≡ (3, 1, 0x10084) ∷ [])  -- parent
    × (answered (called (asks 0 174 5 0 0) 3) ≡ (3, 0, 0x10084) ∷ [])  -- user
    × (answered (called (asks 0 125 1 0 0) 3) ≡ (3, 99, 0x10084) ∷ [])  -- highest priority
    × (answered (called (asks 0 126 4 0 0) 3) ≡ (3, negative 22, 0x10084) ∷ [])  -- no policy
    × (answered (called (asks 0 261 1 16 0x10078) 3) ≡ (3, negative 22, 0x10084) ∷ [])  -- no resource
    × (answered (called (asks 0 261 1 3 0x10078) 3) ≡ (3, negative 1, 0x10084) ∷ [])  -- a new limit
    × (limit_of 3 ≡ 262144)  -- stack
    × (limit_of 7 ≡ 2 ^ 64 - 1)  -- open files
asking_calls = (refl, refl, refl, refl, refl, refl, refl, refl, refl, refl, refl, refl, refl)

-- an exit's code is its low 8 bits; it sets no file
exit_calls :
    ((called (asks 0 93 0x107 0 0) 3).ended ≡ Some (over.Exit 7))  -- low byte
    × (answered (called (asks 0 93 0x107 0 0) 3) ≡ [])  -- no file set
exit_calls = (refl, refl)

-- a process whose only thread waits is stuck; one whose thread is ready or runs isn't, and neither is one without threads; an
-- end by an event comes first
abbrev waiting_threads : Threads
waiting_threads = with_state 1 (state.Waiting 0x20000) start_threads

stuck_processes :
    (is_stuck waiting_threads ≡ true)  -- only waiter
    × (is_stuck start_threads ≡ false)  -- ready thread
    × (is_stuck (with_state 1 (state.Running (record { 0 = 1 })) start_threads) ≡ false)  -- running thread
    × (is_stuck (record start_threads { live = [] }) ≡ false)  -- no thread
    × (final None (record (kernel exits []) { threads = waiting_threads }) ≡ Some over.Stuck)  -- stuck ends
    × (final (Some (over.Exit 7)) (record (kernel exits []) { threads = waiting_threads }) ≡ Some (over.Exit 7))  -- event ends first
stuck_processes = (refl, refl, refl, refl, refl, refl)

-- an entry of a hart that runs no thread has no thread and no pc
no_thread_no_pc : entry_in asked.Drain (here_in_history exits [] 1) ≡ record { hart = record { 0 = 1 }; kind = kind.Drain; tid = record { 0 = 0 }; pc = 0 }
no_thread_no_pc = refl

-- what is read of hart 0: nothing before its thread runs; then `addi x10, x0, 7`, which touches registers alone, and no
-- thread is ready. A store doesn't touch registers alone
abbrev sees : Setting → List Entry → Here
sees s log = here_in_history s (history s log) 0

first_sights :
    (effect_here (sees exits []) ≡ None)  -- nothing next
    × (first_ready (sees exits []) ≡ Some (record { 0 = 1 }))  -- first is ready
    × (effect_here (sees exits begun) ≡ Some (effect.Next 10 7 0x1007C))  -- next adds
    × (is_local_on (sees exits begun) (Some 1) ≡ true)  -- next is local
    × (first_ready (sees exits begun) ≡ None)  -- none is ready
    × (is_local_on (sees stores_nine (entry kind.Run 0x100B0 ∷ entry kind.Exec 0x100B0 ∷ [])) (Some 1) ≡ false)  -- store is not local
unfolding history done is_register_only meaning row_of rows
first_sights = (refl, refl, refl, refl, refl, refl)

-- the whole sight of hart 0 where two stores wait
abbrev two_stores : List Entry
two_stores = entry kind.Run 0x100B0 ∷ entry kind.Exec 0x100B0 ∷ entry kind.Exec 0x100B4 ∷ entry kind.Exec 0x100B8 ∷ []

abbrev two_wait : Sight
two_wait = record idle { idle = false; stores = 2; exec_enabled = true; ran = 3 }

-- the fixed rule: it executes where it may, and drains where it may not; a signal waits for the drains; an idle hart runs the first
-- ready thread, and has no choice where none is ready
fixed_rule :
    (sight_in (sees stores_nine two_stores) (ran 0 (history stores_nine two_stores)) 0 ≡ two_wait)  -- sight of two
    × (solo_rule two_wait ≡ Some asked.Exec)  -- rule executes
    × (solo_rule (record two_wait { exec_enabled = false }) ≡ Some asked.Drain)  -- rule drains
    × (solo_rule (record two_wait { deliverable = true }) ≡ Some asked.Drain)  -- rule drains for signal
    × (solo_rule (record two_wait { deliverable = true; stores = 0 }) ≡ Some asked.Signal)  -- rule delivers
    × (solo_rule (record two_wait { idle = true; first_ready = Some (record { 0 = 5 }) }) ≡ Some (asked.Run (record { 0 = 5 })))  -- rule runs
    × (solo_rule (record two_wait { idle = true }) ≡ None)  -- rule has none
    × (solo_choice exits (history exits []) ≡ Some first)  -- rule begins
unfolding all_signals history done is_register_only meaning row_of rows
fixed_rule = (refl, refl, refl, refl, refl, refl, refl, refl)

begins_by_rule : IsSolo exits begun
unfolding history done
begins_by_rule = (tt, refl, refl)
