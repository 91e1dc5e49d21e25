-- Worked examples, proved by computation: membarrier(2), the requests of a barrier and the harts that take them, the return of a
-- barrier, and what a thread that waits in one may not do.
use Rattle.block_model.proofs.Common.{◌≡◌, ℕ, pos, Bool, true, false, cond, eqb, List, [], ◌∷◌, ◌++◌, replicate, length, map, refl, Option, Some, None, inl, inr, Barrier, Choice, Done, EINVAL, EPERM, End, Entry, Here, Idle, Killed, NoRequest, NotInBarrier, Outcome, Registered, Regs, Setting, Store, Targets, Threads, Why, Write, all_signals, are_readable, awaits_after, called, done, done_done, done_take, double_written, file, file_among, here_in_history, history, is_register_only, meaning, negative, no_registers, nothing, number_at, option_map, pick, refusal_of, refusal_take, register, requests_after, restart_after, row_of, rows, sight_in, start_signalling, start_threads, with_child, with_pending, with_register, with_state, Pick}
use Rattle.mach_types.specs.Kernel.Barriers as barriers
use Rattle.mach_types.specs.declared.barriers.Answer.{Answer}
use Rattle.mach_types.specs.declared.barriers.Answer.TheVariants.{Begin, Value}
use Rattle.mach_types.specs.declared.events.Choice.TheVariants as asked
use Rattle.mach_types.specs.declared.events.Kind.TheVariants as kind
use Rattle.mach_types.specs.declared.events.Why.TheVariants.{InBarrier, Waiting}
use Rattle.mach_types.specs.declared.threads.ThreadState.TheVariants as state
use Rattle.mach_types.specs.Kernel.PairBarriers.{command_two}
use Rattle.block_model.specs.Walks.{IsWalk, answers, computed}
use Rattle.block_model.proofs.SequenceExamples.{pcs, program}
use Rattle.block_model.proofs.ExamplePrograms.{code_and_data, entry_of as entry}

-- WHO IS ASKED

-- a machine of four harts, on three of which a thread runs: thread 1 on hart 0, thread 2 on hart 1, and thread 3 on hart 3
abbrev four_harts : Setting
four_harts = record program { limits = record program.limits { harts = 4 } }

abbrev running_at : ℕ → ℕ → Threads → Threads
running_at t h ts = with_state t (state.Running (record { 0 = h })) ts

abbrev alone : Threads
alone = running_at 1 0 start_threads

abbrev three_run : Threads
three_run = running_at 3 3 (running_at 2 1 (with_child (with_child alone)))

-- hart h is asked. Each thread has these registers and this pc, and the process is registered for these barriers
abbrev stands : Threads → Registered → ℕ → Regs → ℕ → Here
stands threads registered h registers pc =
    let here = here_in_history four_harts [] h in
    record here {
      file = λ t. record { file = registers; pc = pc };
      kernel = record here.kernel { threads = threads; barriers = registered };
    }

abbrev registered_for : Bool → Bool → Bool → Registered
registered_for global private rseq = record { global = global; private = private; rseq = rseq }

abbrev for_none : Registered
for_none = registered_for false false false

abbrev for_all : Registered
for_all = registered_for true true true

-- thread 1 calls membarrier(cmd, flags, cpu) at 0x10080
abbrev call_registers : ℕ → ℕ → ℕ → Regs
call_registers cmd flags cpu = with_register (with_register (with_register (with_register no_registers 17 283) 10 cmd) 11 flags) 12 cpu

abbrev asks : Registered → ℕ → ℕ → ℕ → Here
asks registered cmd flags cpu = stands three_run registered 0 (call_registers cmd flags cpu) 0x10080

-- the same where no other thread runs
abbrev asks_alone : ℕ → Here
asks_alone cmd = stands alone for_all 0 (call_registers cmd 0 0) 0x10080

-- a0 after the call, and the barrier that it began; a barrier; and the registrations after the call
abbrev answer : Here → ℕ
answer here = register (file_among (called here 1).files 1 (here.file 1)).file 10

abbrev answer_and_barrier : Here → ℕ × Option Barrier
answer_and_barrier here = (answer here, (called here 1).barrier)

abbrev barrier_at : ℕ → Bool → Option Barrier
barrier_at targets restart = Some (record { targets = targets; restart = restart })

abbrev registered_after : Here → Registered
registered_after here = (called here 1).kernel.barriers

-- REGISTRATIONS

-- each command of registration registers the process for its barriers alone, and what was registered before stays; the sum of the
-- numbers of the commands that registered it; a private barrier wants its own registration; one on processes that are registered is
-- over at once where this one isn't; what isn't offered, and flags that a command doesn't take. A command is the low 32 bits of its
-- register
registrations :
    (map (λ cmd. registered_after (asks for_none cmd 0 0)) (0 ∷ 4 ∷ 16 ∷ 256 ∷ [])
    ≡ for_none ∷ registered_for true false false ∷ registered_for false true false ∷ registered_for false false true ∷ [])  -- registers
    × (registered_after (asks (registered_for true false true) 16 0 0) ≡ for_all)  -- registers too
    × (map (λ registered. answer (asks registered 512 0 0)) (for_none ∷ registered_for true false true ∷ for_all ∷ []) ≡ 0 ∷ 260 ∷ 276 ∷ [])  -- sum of registrations
    × (map (λ (ask : Registered × ℕ). answer_and_barrier (asks ask.0 ask.1 0 0))
    ((for_none, 8) ∷ (registered_for true false true, 8) ∷ (for_none, 128) ∷ (registered_for true true false, 128) ∷ (registered_for false true true, 2) ∷ [])
    ≡ replicate 4 (negative EPERM.0, None) ++ (0, None) ∷ [])  -- not registered
    × (map (λ (ask : ℕ × ℕ). answer_and_barrier (asks for_all ask.0 ask.1 0)) ((3, 0) ∷ (32, 0) ∷ (8, 1) ∷ (128, 2) ∷ (0x100000008, 0) ∷ [])
    ≡ replicate 4 (negative EINVAL.0, None) ++ (0x100000008, barrier_at 10 false) ∷ [])  -- not offered
unfolding barriers.asked
registrations = (refl, refl, refl, refl, refl)

-- WHICH HARTS

-- a barrier is about the harts on which other threads run, and asks for a restart where its command says so; the same of threads 2
-- and 3; with a processor given: about that one, where another thread runs there, and about each where it is negative. It is the
-- low 32 bits of its register, and counts under the flag alone
concerned_harts :
    (map (λ cmd. (called (asks for_all cmd 0 0) 1).barrier) (1 ∷ 2 ∷ 8 ∷ 128 ∷ [])
    ≡ barrier_at 10 false ∷ barrier_at 10 false ∷ barrier_at 10 false ∷ barrier_at 10 true ∷ [])  -- about the others
    × (map (λ (ask : ℕ × ℕ). (called (record (asks for_all 8 0 0) { hart = ask.0 }) ask.1).barrier) ((1, 2) ∷ (3, 3) ∷ [])
    ≡ barrier_at 9 false ∷ barrier_at 3 false ∷ [])  -- about others of these
    × (map (λ cpu. answer_and_barrier (asks for_all 128 1 cpu)) (1 ∷ 3 ∷ 0x100000003 ∷ 0xFFFFFFFF ∷ 0 ∷ 2 ∷ 4 ∷ [])
    ≡ (128, barrier_at 2 true) ∷ (128, barrier_at 8 true) ∷ (128, barrier_at 8 true) ∷ (128, barrier_at 10 true) ∷ replicate 3 (0, None))  -- about one
    × ((called (asks for_all 128 0 3) 1).barrier ≡ barrier_at 10 true)  -- about each without flag
unfolding barriers.asked
concerned_harts = (refl, refl, refl, refl)

-- with another process on the machine, whose threads run on harts 1 and 2, while those of the caller's run on harts 0 and 3: a barrier
-- on all processes is about both; an expedited one about each that registered for it, whether the caller did or not; a private one
-- about the caller's own
abbrev asks_two : Registered × Registered × ℕ → Answer
asks_two ask = command_two ask.0 ask.1 (pos ask.2) 0 (pos 0) 0 9 6 4

abbrev for_global : Registered
for_global = registered_for true false false

-- registrations are the caller's own, and so is what a private barrier wants
concerned_processes :
    (map asks_two
    ((for_none, for_none, 1) ∷ (for_none, for_none, 2) ∷ (for_global, for_none, 2) ∷ (for_none, for_global, 2) ∷ (for_global, for_global, 2) ∷ (for_all, for_all, 8) ∷ (for_all, for_all, 128) ∷ [])
    ≡ Begin 14 false ∷ Value (pos 0) ∷ Begin 8 false ∷ Begin 6 false ∷ Begin 14 false ∷ Begin 8 false ∷ Begin 8 true ∷ [])  -- about two processes
    × (map asks_two ((for_none, for_all, 512) ∷ (for_all, for_none, 512) ∷ (for_none, for_all, 8) ∷ (for_none, for_all, 4) ∷ (for_none, for_all, 3) ∷ [])
    ≡ Value (pos 0) ∷ Value (pos 276) ∷ barriers.refusal EPERM ∷ Value (pos 0) ∷ barriers.refusal EINVAL ∷ [])  -- own registrations
unfolding barriers.asked
concerned_processes = (refl, refl)

-- where a barrier begins a0 stays and the pc goes on, and the record stays; one that is about no hart answers 0 at once
begun_barrier :
    ((called (asks for_all 8 0 0) 1).files ≡ (1, record { file = call_registers 8 0 0; pc = 0x10084 }) ∷ [])  -- begins
    × ((called (asks for_all 8 0 0) 1).kernel ≡ (asks for_all 8 0 0).kernel)  -- record stays
    × (map (λ cmd. answer_and_barrier (asks_alone cmd)) (1 ∷ 2 ∷ 8 ∷ 128 ∷ []) ≡ replicate 4 (0, None))  -- over at once
unfolding barriers.asked
begun_barrier = (refl, refl, refl)

-- REQUESTS

-- hart 0 begins a barrier
abbrev begins_at : ℕ → Bool → Done
begins_at targets restart = record (nothing (asks for_all 8 0 0)) { barrier = barrier_at targets restart }

-- it asks each hart that it is about, and no other, and what is pending there stays; where it is pending already it stays once; it
-- asks for a restart there; and where another barrier asked for one, that stays; its thread waits for them
made_requests :
    (map (λ k. requests_after k 0 (begins_at 10 false) 4) (0 ∷ 1 ∷ 2 ∷ 3 ∷ []) ≡ 4 ∷ 5 ∷ 4 ∷ 5 ∷ [])  -- asks each
    × (requests_after 1 0 (begins_at 10 false) 5 ≡ 5)  -- asks once
    × (map (λ k. restart_after k 0 (begins_at 10 true) false) (0 ∷ 1 ∷ 2 ∷ 3 ∷ []) ≡ false ∷ true ∷ false ∷ true ∷ [])  -- asks to restart
    × (restart_after 1 0 (begins_at 10 false) true ≡ true)  -- restart stays
    × (map (λ k. awaits_after k 0 (begins_at 10 false) None) (0 ∷ 1 ∷ []) ≡ Some 10 ∷ None ∷ [])  -- waits for each
made_requests = (refl, refl, refl, refl, refl)

-- hart 1, on which thread 2 runs, has requests of these harts, and these stores wait there; on each other hart a store waits
abbrev one_store : List Store
one_store = record { at = 0x20000; size = 1; value = 7 } ∷ []

abbrev has_requests : ℕ → List Store → Here
has_requests set stores = record (stands three_run for_all 1 no_registers 0x100B4) {
  requests = set;
  waiting = λ h. cond (eqb h 1) stores one_store;
  reserved = Some 0x20000;
}

-- it may take them where no store of its own waits, and where there are some; also where its thread waits in a barrier itself, so
-- that two that wait for one another go on; then none is pending there, and no restart is asked for; what is pending at another
-- hart stays; no thread waits for hart 1 any more, but its own waits as before
taken_requests :
    (map refusal_take (has_requests 0 one_store ∷ has_requests 0 [] ∷ has_requests 5 one_store ∷ has_requests 5 [] ∷ record (has_requests 5 []) { awaits = Some 9 } ∷ [])
    ≡ Some NoRequest ∷ Some NoRequest ∷ Some Waiting ∷ None ∷ None ∷ [])  -- may take
    × (map (λ k. requests_after k 1 (done_take (has_requests 5 [])) 5) (0 ∷ 1 ∷ 3 ∷ []) ≡ 5 ∷ 0 ∷ 5 ∷ [])  -- takes its own
    × (map (λ k. restart_after k 1 (done_take (has_requests 5 [])) true) (1 ∷ 3 ∷ []) ≡ false ∷ true ∷ [])  -- no restart is left
    × (map (λ awaits. awaits_after 0 1 (done_take (has_requests 5 [])) awaits) (Some 10 ∷ Some 2 ∷ Some 8 ∷ None ∷ []) ≡ Some 8 ∷ Some 0 ∷ Some 8 ∷ None ∷ [])  -- fewer are left
    × (awaits_after 1 1 (done_take (has_requests 5 [])) (Some 9) ≡ Some 9)  -- its own waits
taken_requests = (refl, refl, refl, refl, refl)

-- it executes nothing, no file changes, and the reservation is lost
abbrev rest_of : Done → Option ℕ × ℕ × List (ℕ × ℕ) × Option Outcome
rest_of d = (d.reserved, d.instructions, pcs d.files, d.interrupted)

nothing_else : rest_of (done_take (has_requests 5 [])) ≡ (None, 0, [], None)
nothing_else = refl

-- an idle hart takes the requests that came when a thread ran there, and none is interrupted
abbrev left_hart : Here
left_hart = record (has_requests 5 []) { hart = 2; waiting = λ h. []; restart = true }

idle_take :
    (refusal_take left_hart ≡ None)  -- idle takes
    × (rest_of (done_take left_hart) ≡ (None, 0, [], None))  -- idle restarts none
    × (requests_after 2 2 (done_take left_hart) 5 ≡ 0)  -- idle took
idle_take = (refl, refl, refl)

-- A THREAD IN A BARRIER

-- thread 1, for which signal 10 is pending, waits so in a barrier; what is refused of it
abbrev waits_for : Option ℕ → Here
waits_for left =
    let here = stands three_run for_all 0 (call_registers 8 0 0) 0x10084 in
    record here { awaits = left; requests = 2; reserved = Some 0x20000; kernel = record here.kernel { signals = with_pending 1 10 start_signalling } }

abbrev refusals : Here → List (Option Why)
refusals here = map (λ c. refusal_of c here) (asked.Exec ∷ asked.Preempt ∷ asked.Signal ∷ asked.Take ∷ asked.Done ∷ [])

-- it makes no event but that its barrier returns, once no hart is left; its hart takes requests; where it returns a0 becomes 0 and
-- the pc stays; its thread waits no more; and what is pending at its hart stays
waits_in_barrier :
    (map (λ left. refusals (waits_for left)) (Some 10 ∷ Some 0 ∷ [])
    ≡ (Some InBarrier ∷ Some InBarrier ∷ Some InBarrier ∷ None ∷ Some Targets ∷ [])
    ∷ (Some InBarrier ∷ Some InBarrier ∷ Some InBarrier ∷ None ∷ None ∷ [])
    ∷ [])  -- waits
    × (refusals (waits_for None) ≡ None ∷ None ∷ None ∷ None ∷ Some NotInBarrier ∷ [])  -- waits in none
    × (refusal_of asked.Done (record (waits_for None) { hart = 2 }) ≡ Some Idle)  -- idle returns from none
    × ((done_done (waits_for (Some 0))).files ≡ (1, record { file = with_register (call_registers 8 0 0) 10 0; pc = 0x10084 }) ∷ [])  -- returns zero
    × (map (λ k. awaits_after k 0 (done_done (waits_for (Some 0))) (Some 0)) (0 ∷ 1 ∷ []) ≡ None ∷ Some 0 ∷ [])  -- waits no more
    × (requests_after 0 0 (done_done (waits_for (Some 0))) 2 ≡ 2)  -- pending stays
unfolding all_signals meaning row_of rows
waits_in_barrier = (refl, refl, refl, refl, refl, refl)

-- SEQUENCES

-- thread 2 has an area at 0x20000 with this signature, whose sequence begins at 0x100B0 and has its abort handler at 0x20044. A barrier
-- asks for a restart at its hart, or doesn't
abbrev in_sequence : Bool → ℕ → ℕ → Here
in_sequence restart sig pc =
    let here = stands three_run for_all 1 no_registers pc in
    record here { requests = 1; restart = restart; kernel = record here.kernel { areas = (2, record { at = 0x20000; sig = sig }) ∷ [] } }

abbrev result : Done → List (ℕ × ℕ) × List Write × Option End
result d = (pcs d.files, d.entered, d.ended)

-- inside its sequence it goes on at its abort handler, and the pointer is cleared; outside the pointer alone is; what is bad kills
-- the process by SIGSEGV; where no restart is asked for nothing is looked at; a barrier that returns interrupts nothing: the pc of
-- its own thread stays, and its pointer
restarted_by_take :
    (map (λ pc. result (done_take (in_sequence true 0xF1401073 pc))) (0x100AC ∷ 0x100B0 ∷ 0x100BC ∷ 0x100C0 ∷ [])
    ≡ ([], double_written 0x20008 0 ∷ [], None)
    ∷ ((2, 0x20044) ∷ [], double_written 0x20008 0 ∷ [], None)
    ∷ ((2, 0x20044) ∷ [], double_written 0x20008 0 ∷ [], None)
    ∷ ([], double_written 0x20008 0 ∷ [], None)
    ∷ [])  -- begins anew
    × (map (λ restart. result (done_take (in_sequence restart 0xF1401072 0x100B4))) (true ∷ false ∷ []) ≡ ([], [], Some (Killed 11)) ∷ ([], [], None) ∷ [])  -- bad is killed
    × (result (done_take (in_sequence false 0xF1401073 0x100B4)) ≡ ([], [], None))  -- goes on inside
    × (result (done_done (record (in_sequence true 0xF1401073 0x100B4) { awaits = Some 0 })) ≡ ((2, 0x100B4) ∷ [], [], None))  -- own stays
unfolding are_readable number_at
restarted_by_take = (refl, refl, refl, refl)

-- CHOICES

-- what a scheduler sees: whether the thread waits in a barrier, whether that can return, and whether requests are pending
abbrev seen : Here → Bool × Bool × Bool
seen here = let it = sight_in here 0 0 in (it.in_barrier, it.all_taken, it.requested)

sees_barriers : map seen (waits_for (Some 10) ∷ waits_for (Some 0) ∷ waits_for None ∷ has_requests 0 [] ∷ [])
    ≡ (true, false, true) ∷ (true, true, true) ∷ (false, false, true) ∷ (false, false, false) ∷ []
sees_barriers = refl

-- what `run` picks where it has no credit, and where the word is 0
abbrev picked : Here → Option Choice
picked here = option_map (λ (p : Pick). p.choice) (pick (sight_in here 0 0) 0)

-- requests come first, after the stores that wait; a thread that waits in a barrier picks nothing else but that it returns
barrier_picks :
    (map picked (has_requests 5 one_store ∷ has_requests 5 [] ∷ left_hart ∷ waits_for (Some 10) ∷ []) ≡ Some asked.Drain ∷ Some asked.Take ∷ Some asked.Take ∷ Some asked.Take ∷ [])  -- picks requests
    × (map (λ left. picked (record (waits_for left) { requests = 0 })) (Some 10 ∷ Some 0 ∷ None ∷ []) ≡ None ∷ Some asked.Done ∷ Some asked.Signal ∷ [])  -- picks return
unfolding pick all_signals is_register_only meaning row_of rows
barrier_picks = (refl, refl)

-- LOGS

-- thread 1 makes a child, registers the process for private barriers, and makes one; the child stores 220 at 0x20000
abbrev fences : Setting
fences = code_and_data (0x37 ∷ 0x04 ∷ 0x02 ∷ 0x00 ∷ 0x37 ∷ 0x15 ∷ 0x01 ∷ 0x00 ∷ 0x13 ∷ 0x05 ∷ 0x05 ∷ 0xF0 ∷ 0x93 ∷ 0x08 ∷ 0xC0 ∷ 0x0D
    ∷ 0x73 ∷ 0x00 ∷ 0x00 ∷ 0x00 ∷ 0x63 ∷ 0x0E ∷ 0x05 ∷ 0x00 ∷ 0x13 ∷ 0x05 ∷ 0x00 ∷ 0x01 ∷ 0x93 ∷ 0x08 ∷ 0xB0 ∷ 0x11
    ∷ 0x73 ∷ 0x00 ∷ 0x00 ∷ 0x00 ∷ 0x13 ∷ 0x05 ∷ 0x80 ∷ 0x00 ∷ 0x73 ∷ 0x00 ∷ 0x00 ∷ 0x00 ∷ 0x93 ∷ 0x02 ∷ 0x10 ∷ 0x00
    ∷ 0x23 ∷ 0x30 ∷ 0x14 ∷ 0x01 ∷ 0x13 ∷ 0x03 ∷ 0x10 ∷ 0x00 ∷ [])

abbrev stored_log : List Entry
stored_log = entry 0 kind.Run 1 0x100B0 ∷ map (entry 0 kind.Exec 1) (0x100B0 ∷ 0x100B4 ∷ 0x100B8 ∷ 0x100BC ∷ 0x100C0 ∷ [])
    ++ entry 1 kind.Run 2 0x100C4 ∷ map (entry 1 kind.Exec 2) (0x100C4 ∷ 0x100E0 ∷ [])

abbrev begun_log : List Entry
begun_log = stored_log ++ map (entry 0 kind.Exec 1) (0x100C4 ∷ 0x100C8 ∷ 0x100CC ∷ 0x100D0 ∷ 0x100D4 ∷ 0x100D8 ∷ [])

-- a walk of thread 2, in which its hart takes the request: the take is answered nothing, and its file is what its one instruction makes
abbrev walk : List Entry
walk = entry 1 kind.Drain 2 0x100E4 ∷ entry 1 kind.Take 2 0x100E4 ∷ entry 1 kind.Exec 2 0x100E4 ∷ []

is_walk : IsWalk fences 1 2 (history fences begun_log) walk
unfolding history done barriers.asked meaning row_of rows
is_walk = record {
  starts = refl;
  each = (
    λ is. inl refl,
    (λ is. inr (inl (record { takes = refl; quiet = refl })), (λ is. inr (inr (record { executes = refl; no_fault = refl; no_call = λ e. absurd cc })), tt)),
  );
}

returned_walk :
    (length (answers fences 1 (history fences begun_log) walk) ≡ 1)  -- answered once
    × (register (computed fences.program.pages (file fences 2 (history fences begun_log)) (answers fences 1 (history fences begun_log) walk)).file 6 ≡ 1)  -- computed by one
unfolding history done barriers.asked meaning row_of rows
returned_walk = (refl, refl)
