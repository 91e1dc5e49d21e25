-- Worked examples, proved by computation: the sequence of a program, each way in which it ends, and beside each what is there then.
use Rattle.block_model.proofs.Common.{◌≡◌, ℕ, ◌*◌, ◌/◌, ◌%◌, Bool, true, false, List, [], ◌∷◌, ◌++◌, replicate, length, ◌-◌, refl, Option, Some, None, Result, Ok, Err, Ask, Entry, History, Killed, SIGSEGV, Sequence, Setting, all_signals, are_readable, before_last, can_write_frame, decide, done, end_at_verdict, end_before, end_so_far, ended, file, hanging, here_in_history, history, is_inside_at, meaning, memory, number_at, option_map, played, register, row_of, rows, sequence_on, touched_in, watched_at, word_at, SeqEnd}
use Rattle.mach_types.specs.declared.events.Choice.TheVariants as asked
use Rattle.mach_types.specs.Kernel.Barriers as barriers
use Rattle.block_model.specs.declared.acts.SeqEnd.TheVariants as ends
use Rattle.block_model.proofs.ExamplePrograms.{code_and_page, line_of as line, within_frames}

-- PROGRAMS

-- a program registers its area at 0x20000 with the signature 0xF1401073
abbrev registration : List ℕ
registration =
    0x37 ∷ 0x05 ∷ 0x02 ∷ 0x00 ∷ 0x93 ∷ 0x05 ∷ 0x00 ∷ 0x02 ∷ 0x13 ∷ 0x06 ∷ 0x00 ∷ 0x00 ∷ 0xB7 ∷ 0x16 ∷ 0x40 ∷ 0xF1 ∷
    0x93 ∷ 0x86 ∷ 0x36 ∷ 0x07 ∷ 0x93 ∷ 0x08 ∷ 0x50 ∷ 0x12 ∷ 0x73 ∷ 0x00 ∷ 0x00 ∷ 0x00 ∷ []

-- behind that comes its sequence of two instructions, which puts 1 into t0 and does this; another instruction; and behind the
-- signature the abort handler, which puts 7 into t0
abbrev sequence_of : List ℕ → List ℕ
sequence_of second =
    (0x93 ∷ 0x02 ∷ 0x10 ∷ 0x00 ∷ []) ++ second
    ++ 0x93 ∷ 0x02 ∷ 0x30 ∷ 0x00 ∷ 0x73 ∷ 0x10 ∷ 0x40 ∷ 0xF1 ∷ 0x93 ∷ 0x02 ∷ 0x70 ∷ 0x00 ∷ []

-- it puts 2 into t0, or makes a call
abbrev puts_two : List ℕ
puts_two = 0x93 ∷ 0x02 ∷ 0x20 ∷ 0x00 ∷ []

abbrev calls : List ℕ
calls = 0x73 ∷ 0x00 ∷ 0x00 ∷ 0x00 ∷ []

-- an area, which names a descriptor behind it; and the descriptor of a sequence that begins at 0x10000 + `start`, with its abort
-- handler at 0x10000 + `abort`
abbrev area : List ℕ
area = replicate 8 0 ++ 0x20 ∷ 0 ∷ 2 ∷ replicate 21 0

abbrev descriptor : ℕ → ℕ → List ℕ
descriptor start abort =
    replicate 8 0 ++ (start % 256) ∷ (start / 256) ∷ 1 ∷ 0 ∷ 0 ∷ 0 ∷ 0 ∷ 0 ∷ 8 ∷ 0 ∷ 0 ∷ 0 ∷ 0 ∷ 0 ∷ 0 ∷ 0
    ∷ (abort % 256) ∷ (abort / 256) ∷ 1 ∷ 0 ∷ 0 ∷ 0 ∷ 0 ∷ 0 ∷ []

abbrev program_with : List ℕ → List ℕ → Setting
program_with code data_bytes = within_frames 128 (code_and_page code (area ++ data_bytes))

abbrev program : Setting
program = program_with (registration ++ sequence_of puts_two) (descriptor 0xCC 0xDC)

-- the same with a call inside the sequence
abbrev calling : Setting
calling = program_with (registration ++ sequence_of calls) (descriptor 0xCC 0xDC)

-- the same of a thread that made a child before, which writes 0 over the pointer of the area
abbrev clones : List ℕ
clones =
    0x37 ∷ 0x15 ∷ 0x01 ∷ 0x00 ∷ 0x13 ∷ 0x05 ∷ 0x05 ∷ 0xF0 ∷ 0x93 ∷ 0x08 ∷ 0xC0 ∷ 0x0D ∷ 0x73 ∷ 0x00 ∷ 0x00 ∷ 0x00 ∷
    0x63 ∷ 0x0A ∷ 0x05 ∷ 0x02 ∷ []

abbrev child : List ℕ
child = 0x37 ∷ 0x03 ∷ 0x02 ∷ 0x00 ∷ 0x23 ∷ 0x34 ∷ 0x03 ∷ 0x00 ∷ []

abbrev shared : Setting
shared = program_with (clones ++ registration ++ sequence_of puts_two ++ child) (descriptor 0xE0 0xF0)

-- the same with a child that registers the process for private barriers, and makes one: one that asks for a restart, and one that
-- doesn't
abbrev fences : ℕ → ℕ → List ℕ
fences registers command =
    0x13 ∷ 0x05 ∷ 0x00 ∷ registers ∷ 0x93 ∷ 0x08 ∷ 0xB0 ∷ 0x11 ∷ 0x73 ∷ 0x00 ∷ 0x00 ∷ 0x00 ∷
    0x13 ∷ 0x05 ∷ (16 * command % 256) ∷ (command / 16) ∷ 0x73 ∷ 0x00 ∷ 0x00 ∷ 0x00 ∷ []

abbrev restarting : Setting
restarting = program_with (clones ++ registration ++ sequence_of puts_two ++ fences 0x10 128) (descriptor 0xE0 0xF0)

abbrev fencing : Setting
fencing = program_with (clones ++ registration ++ sequence_of puts_two ++ fences 0x01 8) (descriptor 0xE0 0xF0)

-- the same of a thread that set the action behind its descriptor for signal 10 before, a handler at 0x10120, and posted signal 10 to
-- itself; and of one that posted signal 15 to itself, which kills it
abbrev sets_action : List ℕ
sets_action =
    0x13 ∷ 0x05 ∷ 0xA0 ∷ 0x00 ∷ 0xB7 ∷ 0x05 ∷ 0x02 ∷ 0x00 ∷ 0x93 ∷ 0x85 ∷ 0x05 ∷ 0x04 ∷ 0x93 ∷ 0x06 ∷ 0x80 ∷ 0x00 ∷
    0x93 ∷ 0x08 ∷ 0x60 ∷ 0x08 ∷ 0x73 ∷ 0x00 ∷ 0x00 ∷ 0x00 ∷ []

abbrev posts : ℕ → List ℕ
posts signal =
    0x13 ∷ 0x05 ∷ 0x10 ∷ 0x00 ∷ 0x93 ∷ 0x05 ∷ (16 * signal) ∷ 0x00 ∷ 0x93 ∷ 0x08 ∷ 0x20 ∷ 0x08 ∷ 0x73 ∷ 0x00 ∷ 0x00 ∷ 0x00 ∷ []

abbrev handling : Setting
handling = program_with (sets_action ++ posts 10 ++ registration ++ sequence_of puts_two) (descriptor 0xF4 0x104 ++ 0x20 ∷ 1 ∷ 1 ∷ [])

abbrev unhandling : Setting
unhandling = program_with (posts 15 ++ registration ++ sequence_of puts_two) (descriptor 0xDC 0xEC)

-- SCRIPTS

abbrev runs : ℕ → ℕ → Ask
runs h t = line h (asked.Run (record { 0 = t }))

-- thread 1 begins to run on hart 0, and registers its area: it is then at the start of its sequence
abbrev registered : List Ask
registered = runs 0 1 ∷ replicate 7 (line 0 asked.Exec)

-- it executes one instruction inside
abbrev one_inside : List Ask
one_inside = registered ++ line 0 asked.Exec ∷ []

-- it leaves its hart between both instructions; and then it begins to run on the other
abbrev preempted : List Ask
preempted = one_inside ++ line 0 asked.Preempt ∷ []

abbrev moved : List Ask
moved = preempted ++ runs 1 1 ∷ []

-- the parent executes one instruction inside; then the child, on hart 1, executes its store, which enters memory
abbrev parent_inside : List Ask
parent_inside = runs 0 1 ∷ replicate 13 (line 0 asked.Exec)

abbrev child_stores : List Ask
child_stores = parent_inside ++ runs 1 2 ∷ replicate 3 (line 1 asked.Exec)

abbrev child_writes : List Ask
child_writes = child_stores ++ line 1 asked.Drain ∷ []

-- the parent executes so many instructions; then the child, on hart 1, makes its barrier, whose request hart 0 takes
abbrev fenced_after : ℕ → List Ask
fenced_after executed = runs 0 1 ∷ replicate executed (line 0 asked.Exec) ++ runs 1 2 ∷ replicate 6 (line 1 asked.Exec) ++ line 0 asked.Take ∷ []

-- the same where the parent leaves its hart after the child made its barrier
abbrev fenced_idle : List Ask
fenced_idle = parent_inside ++ runs 1 2 ∷ replicate 6 (line 1 asked.Exec) ++ line 0 asked.Preempt ∷ line 0 asked.Take ∷ []

-- thread 1 begins to run on hart 0 and executes so many instructions, and then a signal is delivered to it
abbrev signalled_after : ℕ → List Ask
signalled_after executed = runs 0 1 ∷ replicate executed (line 0 asked.Exec) ++ line 0 asked.Signal ∷ []

-- what is read at the end of a log
abbrev read_of : {X : Type 0} → Setting → (History → X) → Result (List Entry) ℕ → Result X ℕ
read_of s f (Ok log) = Ok (f (history s log))
read_of s f (Err n) = Err n

abbrev read : {X : Type 0} → (History → X) → List Ask → Result X ℕ
read f lines = read_of program f (played program lines)

-- how the sequence of a hart ended before its newest event; how the sequence that hung of the thread of the newest event ended by it;
-- and how the sequence of hart 0 ends where the log does
abbrev last_end : Setting → History → Option SeqEnd
last_end s [] = None
last_end s (e ∷ before) = option_map (λ (q : Sequence). end_before s q e before) (sequence_on s e.entry.hart.0 before)

abbrev verdict : Setting → History → Option SeqEnd
verdict s [] = None
verdict s (e ∷ before) = option_map (λ (q : Sequence). end_at_verdict s q e before) (hanging s e.entry.tid.0 before)

abbrev end_of_log : Setting → History → Option SeqEnd
end_of_log s before = option_map (λ (q : Sequence). end_so_far s q before) (sequence_on s 0 before)

abbrev thread_of_sequence : History → Option ℕ
thread_of_sequence before = option_map (λ (q : Sequence). q.thread) (sequence_on program 0 before)

abbrev hanging_thread : History → Option ℕ
hanging_thread before = option_map (λ (q : Sequence). q.thread) (hanging program 1 before)

-- whether something touched what the area of hart 0's thread named since its sequence's last event
abbrev was_touched : Setting → History → Option Bool
was_touched s before =
    option_map
    (λ (q : Sequence). touched_in s (length before - length (before_last q)) before (watched_at s q.hart q.thread (before_last q)))
    (sequence_on s 0 before)

-- WHERE A SEQUENCE BEGINS, AND WHERE IT IS LEFT OR UNENDED

-- no instruction was executed inside yet; with the first one the sequence begins; both instructions are executed, and another one
-- behind them; its register has what the last one put there; the log ends between both instructions, or where the thread was
-- preempted there
begun_and_left :
    (read thread_of_sequence registered ≡ Ok None)  -- not begun
    × (read thread_of_sequence one_inside ≡ Ok (Some 1))  -- begun
    × (read (last_end program) (registered ++ replicate 3 (line 0 asked.Exec)) ≡ Ok (Some ends.Left))  -- leaves
    × (read (λ before. register (file program 1 before).file 5) (registered ++ replicate 3 (line 0 asked.Exec)) ≡ Ok 3)  -- goes on behind
    × (read (end_of_log program) one_inside ≡ Ok (Some ends.Unended))  -- unended
    × (read (last_end program) preempted ≡ Ok (Some ends.Unended))  -- not ended yet
    × (read hanging_thread preempted ≡ Ok (Some 1))  -- hangs
unfolding played decide history done are_readable number_at meaning row_of rows
begun_and_left = (refl, refl, refl, refl, refl, refl, refl)

-- CUT

-- the thread left its hart between both instructions, and begins to run on the other: it goes on at its abort handler; its register
-- has what the one instruction put there; it isn't inside any more, and nothing hangs
cut_by_run :
    (read (verdict program) moved ≡ Ok (Some (ends.Cut 0x100DC)))  -- cut
    × (read (λ before. (file program 1 before).pc) moved ≡ Ok 0x100DC)  -- goes on at handler
    × (read (λ before. register (file program 1 before).file 5) moved ≡ Ok 1)  -- keeps
    × (read (is_inside_at program 1) moved ≡ Ok false)  -- isnt inside
    × (read hanging_thread moved ≡ Ok None)  -- hangs no more
unfolding played decide history done are_readable number_at meaning row_of rows
cut_by_run = (refl, refl, refl, refl, refl)

-- a signal is delivered between both instructions: the handler is entered, and returns to the abort handler, which is the first
-- word of its frame; the thread isn't inside any more
cut_by_delivery :
    (read_of handling (last_end handling) (played handling (signalled_after 18)) ≡ Ok (Some (ends.Cut 0x10104)))  -- cut by signal
    × (read_of handling (λ before. (file handling 1 before).pc) (played handling (signalled_after 18)) ≡ Ok 0x10120)  -- enters its handler
unfolding all_signals can_write_frame played decide history done are_readable number_at meaning row_of rows
cut_by_delivery = (refl, refl)

abbrev returns_to : History → Option ℕ
returns_to before = word_at (memory (here_in_history handling before 0)) 0x3FFFF3FE20 8

handler_returns :
    (read_of handling returns_to (played handling (signalled_after 18)) ≡ Ok (Some 0x10104))  -- returns to its abort handler
    × (read_of handling (is_inside_at handling 0) (played handling (signalled_after 18)) ≡ Ok false)  -- isnt inside then
unfolding all_signals can_write_frame played decide history done are_readable number_at meaning row_of rows
handler_returns = (refl, refl)

-- behind both instructions it cuts nothing, and the handler returns there; where no instruction was executed inside yet no sequence
-- ends, and the handler returns to the abort handler too
delivered_outside :
    (read_of handling (last_end handling) (played handling (signalled_after 19)) ≡ Ok (Some ends.Left))  -- left before signal
    × (read_of handling returns_to (played handling (signalled_after 19)) ≡ Ok (Some 0x100FC))  -- returns behind
    × (read_of handling (last_end handling) (played handling (signalled_after 17)) ≡ Ok None)  -- none ends
    × (read_of handling returns_to (played handling (signalled_after 17)) ≡ Ok (Some 0x10104))  -- aborts at its start
unfolding all_signals can_write_frame played decide history done are_readable number_at meaning row_of rows
delivered_outside = (refl, refl, refl, refl)

-- hart 0 takes the request of a barrier that asks for a restart between both instructions: the thread goes on at its abort handler;
-- behind both instructions it cuts nothing; where none was executed inside yet no sequence ends, and the thread goes on there too
restarted_by_barrier :
    (read_of restarting (last_end restarting) (played restarting (fenced_after 13)) ≡ Ok (Some (ends.Cut 0x100F0)))  -- cut by barrier
    × (read_of restarting (λ before. (file restarting 1 before).pc) (played restarting (fenced_after 13)) ≡ Ok 0x100F0)  -- goes on at handler then
    × (read_of restarting (is_inside_at restarting 0) (played restarting (fenced_after 13)) ≡ Ok false)  -- cut is outside
    × (read_of restarting (last_end restarting) (played restarting (fenced_after 14)) ≡ Ok (Some ends.Left))  -- left before barrier
    × (read_of restarting (λ before. (file restarting 1 before).pc) (played restarting (fenced_after 14)) ≡ Ok 0x100E8)  -- stays behind
    × (read_of restarting (last_end restarting) (played restarting (fenced_after 12)) ≡ Ok None)  -- none ends by barrier
    × (read_of restarting (λ before. (file restarting 1 before).pc) (played restarting (fenced_after 12)) ≡ Ok 0x100F0)  -- aborts at its start too
unfolding barriers.asked played decide history done are_readable number_at meaning row_of rows
restarted_by_barrier = (refl, refl, refl, refl, refl, refl, refl)

-- one that asks for no restart cuts nothing: the thread is inside still; nor does one whose request an idle hart takes: the
-- sequence hangs still, and is cut where its thread begins to run
not_restarted :
    (read_of fencing (end_of_log fencing) (played fencing (fenced_after 13)) ≡ Ok (Some ends.Unended))  -- not cut by barrier
    × (read_of fencing (is_inside_at fencing 0) (played fencing (fenced_after 13)) ≡ Ok true)  -- still inside
    × (read_of restarting (λ before. option_map (λ (q : Sequence). q.thread) (hanging restarting 1 before)) (played restarting fenced_idle) ≡ Ok (Some 1))  -- hangs still
    × (read_of restarting (verdict restarting) (played restarting (fenced_idle ++ runs 0 1 ∷ [])) ≡ Ok (Some (ends.Cut 0x100F0)))  -- cut where it runs
unfolding barriers.asked played decide history done are_readable number_at meaning row_of rows
not_restarted = (refl, refl, refl, refl)

-- DEAD

-- the second instruction is a call: the process is killed; a signal that has no handler is delivered between both instructions: the
-- process is killed by it
killed_inside :
    (read_of calling (end_of_log calling) (played calling (one_inside ++ line 0 asked.Exec ∷ [])) ≡ Ok (Some ends.Dead))  -- dead
    × (read_of calling ended (played calling (one_inside ++ line 0 asked.Exec ∷ [])) ≡ Ok (Some (Killed SIGSEGV)))  -- dead by signal
    × (read_of unhandling (last_end unhandling) (played unhandling (signalled_after 12)) ≡ Ok (Some ends.Dead))  -- dead unhandled
    × (read_of unhandling ended (played unhandling (signalled_after 12)) ≡ Ok (Some (Killed 15)))  -- dead by its signal
unfolding played decide history done are_readable number_at all_signals meaning row_of rows
killed_inside = (refl, refl, refl, refl)

-- DROPPED

-- the child's store waits: the parent is inside still. It enters memory: then the parent isn't; the parent goes on with its second
-- instruction, which is no longer of the sequence; the child's store is what touched it
dropped_by_store :
    (read_of shared (λ before. is_inside_at shared 0 before) (played shared child_stores) ≡ Ok true)  -- child waits
    × (read_of shared (end_of_log shared) (played shared child_writes) ≡ Ok (Some ends.Dropped))  -- dropped
    × (read_of shared (last_end shared) (played shared (child_writes ++ line 0 asked.Exec ∷ [])) ≡ Ok (Some ends.Dropped))  -- dropped goes on
    × (read_of shared (λ before. register (file shared 1 before).file 5) (played shared (child_writes ++ line 0 asked.Exec ∷ [])) ≡ Ok 2)  -- goes on at second
    × (read_of shared (was_touched shared) (played shared parent_inside) ≡ Ok (Some false))  -- not touched
    × (read_of shared (was_touched shared) (played shared child_writes) ≡ Ok (Some true))  -- touched
unfolding played decide history done are_readable number_at meaning row_of rows
dropped_by_store = (refl, refl, refl, refl, refl, refl)
