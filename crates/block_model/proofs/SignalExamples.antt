-- Worked examples, proved by computation: signals that are posted, masked and delivered, their handlers, faults that become pending,
-- and waits that a signal breaks.
use Rattle.block_model.proofs.Common.{◌≡◌, ℕ, ◌+◌, ◌*◌, true, false, List, [], ◌∷◌, ◌++◌, replicate, map, take, drop, refl, Option, Some, None, Action, Done, EFAULT, EINTR, EINVAL, End, Entry, Here, Idle, IsBlockRun, Kernel, Killed, NoSignal, Regs, Saved, Setting, Signalling, Store, ThreadState, Threads, Write, action_of, all_signals, are_readable, called, can_write_frame, choice_at, decide, done, done_exec, done_signal, double_written, file_among, frame_read, gone, had_child, has_ended, has_signal, here_in_history, history, is_ignored, is_register_only, kernel, mask_of, meaning, negative, next_entry, next_for, no_registers, number_at, pending_of, pick, refusal_signal, register, row_of, rows, sight_in, start_signalling, start_threads, state_of, waits, with_child, with_mask, with_pending, with_register, with_state, with_thread, with_waiter, written, cond, ltb}
use Rattle.rv_inst.specs.declared.effects.Effect.TheVariants as effect
use Rattle.block_model.specs.Instruction.{told_by}
use Rattle.mach_types.specs.declared.errors.TheConstants.{EAGAIN, ESRCH}
use Rattle.mach_types.specs.declared.events.Kind.TheVariants as kind
use Rattle.mach_types.specs.declared.events.Why.TheVariants.{Waiting}
use Rattle.mach_types.specs.declared.sequences.Outcome.TheVariants as comes_to
use Rattle.mach_types.specs.declared.threads.ThreadState.TheVariants as state
use Rattle.mach_types.specs.Kernel.Signals.{with_action}
use Rattle.block_model.proofs.SequenceExamples.{pcs, program}
use Rattle.block_model.proofs.ExamplePrograms.{entry, code_and_data}
use Rattle.block_model.proofs.Laws.{block_run}

-- WHO IS ASKED

-- a handler at 0x10100 with these flags, which masks these signals too; an action that ignores its signal; and the signals of a process
-- in which one action isn't the default
abbrev handler : ℕ → ℕ → Action
handler flags mask = record { at = 0x10100; flags = flags; mask = mask }

abbrev ignoring : Action
ignoring = record { at = 1; flags = 0; mask = 0 }

abbrev acting : ℕ → Action → Signalling
acting signal action = with_action signal action start_signalling

-- thread 1 runs on hart 0, and hart 0 is asked; each thread has these registers and this pc
abbrev stands : Signalling → Regs → ℕ → Here
stands signals registers pc =
    let here = here_in_history program [] 0 in
    record here {
      file = λ t. record { file = registers; pc = pc };
      kernel = record here.kernel { threads = with_state 1 (state.Running (record { 0 = 0 })) start_threads; signals = signals };
    }

-- with this stack pointer, and 55 in t0
abbrev with_stack : Signalling → ℕ → ℕ → Here
with_stack signals sp pc = stands signals (with_register (with_register no_registers 2 sp) 5 55) pc

abbrev runs_at : Signalling → ℕ → Here
runs_at signals pc = with_stack signals 0x20808 pc

-- it makes a call with a number and four arguments, at 0x10080
abbrev asks : Signalling → ℕ → ℕ → ℕ → ℕ → ℕ → Here
asks signals number a0 a1 a2 a3 =
    stands signals (with_register (with_register (with_register (with_register (with_register no_registers 17 number) 10 a0) 11 a1) 12 a2) 13 a3) 0x10080

-- what its call answers, the signals and the state of a thread after it, what is pending for it then, and the place after it
abbrev answer : Here → ℕ
answer here = register (file_among (called here 1).files 1 (here.file 1)).file 10

abbrev signals_after : Here → Signalling
signals_after here = (called here 1).kernel.signals

abbrev state_after : ℕ → Here → Option ThreadState
state_after t here = state_of t (called here 1).kernel.threads

abbrev answer_and_pending : Here → ℕ × ℕ
answer_and_pending here = (answer here, pending_of 1 (signals_after here))

abbrev after : Here → Here
after here = record here { kernel = (called here 1).kernel }

-- A SIGNAL IS POSTED

-- a thread that has a handler of signal 10 posts it to itself
abbrev handles_10 : Signalling
handles_10 = acting 10 (handler 0 0)

abbrev posts_10 : Here
posts_10 = asks handles_10 130 1 10 0 0

posted_signal :
    (refusal_signal posts_10 ≡ Some NoSignal)  -- none before
    × (refusal_signal (after posts_10) ≡ None)  -- deliverable then
unfolding all_signals
posted_signal = (refl, refl)

-- but not while a store of its hart waits; and nothing is delivered on an idle hart
abbrev one_store : List Store
one_store = record { at = 0x20000; size = 1; value = 7 } ∷ []

-- a scheduler sees it there, and not before
held_up_delivery :
    (refusal_signal (record (after posts_10) { waiting = λ h. one_store }) ≡ Some Waiting)  -- waits for its store
    × (refusal_signal (record (after posts_10) { hart = 1 }) ≡ Some Idle)  -- idle hart
    × (map (λ here. (sight_in here 0 0).deliverable) (posts_10 ∷ after posts_10 ∷ record (after posts_10) { hart = 1 } ∷ []) ≡ false ∷ true ∷ false ∷ [])  -- seen then
unfolding all_signals
held_up_delivery = (refl, refl, refl)

-- a masked signal is pending, and isn't deliverable
abbrev masks_10 : Here
masks_10 = asks (with_mask 1 0x200 handles_10) 130 1 10 0 0

masked_signal :
    (pending_of 1 (signals_after masks_10) ≡ 0x200)  -- masked is pending
    × (refusal_signal (after masks_10) ≡ Some NoSignal)  -- masked is not deliverable
unfolding all_signals
masked_signal = (refl, refl)

-- SIGCHLD is dropped under its default, and so is signal 15 where its action ignores it; each answers 0. SIGCHLD is pending where it has a handler
dropped_where_ignored : map answer_and_pending
    (asks start_signalling 130 1 17 0 0 ∷ asks (acting 15 ignoring) 130 1 15 0 0 ∷ asks (acting 17 (handler 0 0)) 130 1 17 0 0 ∷ [])
    ≡ (0, 0) ∷ (0, 0) ∷ (0, 0x10000) ∷ []
dropped_where_ignored = refl

-- what tkill refuses, in order: a thread that is 0 or negative, one that isn't there, and a signal that can't be sent, as those
-- that stop a process. A thread is the low 32 bits of its register; signal 0 is never pending
thread_signals :
    (map (λ (ask : ℕ × ℕ). answer (asks handles_10 130 ask.0 ask.1 0 0))
    ((0, 32) ∷ (0xFFFFFFFF, 32) ∷ (2, 32) ∷ (1, 32) ∷ (1, 19) ∷ (1, 22) ∷ [])
    ≡ negative EINVAL.0 ∷ negative EINVAL.0 ∷ negative ESRCH.0 ∷ negative EINVAL.0 ∷ negative EINVAL.0 ∷ negative EINVAL.0 ∷ [])  -- tkill refused
    × (map (λ (ask : ℕ × ℕ). answer (asks handles_10 130 ask.0 ask.1 0 0)) ((1, 18) ∷ (1, 23) ∷ (1, 31) ∷ (0x100000001, 10) ∷ []) ≡ 0 ∷ 0 ∷ 0 ∷ 0 ∷ [])  -- tkill answers
    × (answer_and_pending (asks handles_10 130 1 0 0 0) ≡ (0, 0))  -- nothing is posted
thread_signals = (refl, refl, refl)

-- the same of tgkill, which names the process too
process_signals :
    (map (λ (ask : ℕ × ℕ × ℕ). answer (asks handles_10 131 ask.0 ask.1 ask.2 0))
    ((0, 2, 32) ∷ (2, 0, 32) ∷ (2, 1, 32) ∷ (1, 2, 32) ∷ (1, 1, 32) ∷ [])
    ≡ negative EINVAL.0 ∷ negative EINVAL.0 ∷ negative ESRCH.0 ∷ negative ESRCH.0 ∷ negative EINVAL.0 ∷ [])  -- tgkill refused
    × (pending_of 1 (signals_after (asks handles_10 131 1 1 10 0)) ≡ 0x200)  -- tgkill posts
process_signals = (refl, refl)

-- ACTIONS AND MASKS

-- at 0x20800 stand an action, and its mask at 0x20810, which has SIGKILL
abbrev with_action_there : Here → Here
with_action_there here =
    record here { byte = λ a. written (double_written 0x20800 0x10200 ∷ double_written 0x20808 5 ∷ double_written 0x20810 0x302 ∷ []) a 0 }

-- rt_sigaction(10, 0x20800, 0x20900, 8): the new action is set as it stands, and the old one is written
abbrev sets_an_action : Here
sets_an_action = with_action_there (asks (acting 10 (handler 3 4)) 134 10 0x20800 0x20900 8)

-- what it refuses, in order: the size of a set; an action that can't be read; a signal that isn't there, or has one action always;
-- and an old action that can't be written
action_calls :
    (action_of 10 (signals_after sets_an_action) ≡ record { at = 0x10200; flags = 5; mask = 0x302 })  -- new action
    × ((called sets_an_action 1).entered ≡ double_written 0x20900 0x10100 ∷ double_written 0x20908 3 ∷ double_written 0x20910 4 ∷ [])  -- old action
    × (map (λ (ask : ℕ × ℕ × ℕ × ℕ). answer (with_action_there (asks start_signalling 134 ask.0 ask.1 ask.2 ask.3)))
    ((32, 0x30000, 0x21000, 4) ∷ (32, 0x30000, 0x21000, 8) ∷ (32, 0x20800, 0x21000, 8) ∷ (9, 0x20800, 0x21000, 8) ∷ (10, 0x20800, 0x21000, 8) ∷ (9, 0, 0x20900, 8) ∷ [])
    ≡ negative EINVAL.0 ∷ negative EFAULT.0 ∷ negative EINVAL.0 ∷ negative EINVAL.0 ∷ negative EFAULT.0 ∷ 0 ∷ [])  -- action refused
action_calls = (refl, refl, refl)

-- an action that ignores its signal drops it for each thread
abbrev pending_for_two : Signalling
pending_for_two = with_pending 2 17 (with_pending 1 17 (with_thread 1 2 (acting 17 (handler 0 0))))

abbrev ignores_17 : Here
ignores_17 = record (asks pending_for_two 134 17 0x20800 0 8) { byte = λ a. 0 }

dropped_for_both : map (λ t. pending_of t (signals_after ignores_17)) (1 ∷ 2 ∷ []) ≡ 0 ∷ 0 ∷ []
dropped_for_both = refl

-- rt_sigprocmask(how, 0x20810, 0x20900, 8) of a thread that masks 2 and 3: SIGKILL is never masked, and the old mask is written
abbrev sets_its_mask : ℕ → Here
sets_its_mask how = with_action_there (asks (with_mask 1 0x6 start_signalling) 135 how 0x20810 0x20900 8)

-- what it refuses, in order: the size of a set, a set that can't be read, `how` where there is a set, and an old mask that can't be
-- written
mask_calls :
    (map (λ how. mask_of 1 (signals_after (sets_its_mask how))) (0 ∷ 1 ∷ 2 ∷ []) ≡ 0x206 ∷ 0x4 ∷ 0x202 ∷ [])  -- new masks
    × ((called (sets_its_mask 0) 1).entered ≡ double_written 0x20900 0x6 ∷ [])  -- old mask
    × (map (λ (ask : ℕ × ℕ × ℕ × ℕ). answer (with_action_there (asks start_signalling 135 ask.0 ask.1 ask.2 ask.3)))
    ((3, 0x30000, 0x21000, 4) ∷ (3, 0x30000, 0x21000, 8) ∷ (3, 0x20810, 0x21000, 8) ∷ (2, 0x20810, 0x21000, 8) ∷ (3, 0, 0x20900, 8) ∷ [])
    ≡ negative EINVAL.0 ∷ negative EFAULT.0 ∷ negative EINVAL.0 ∷ negative EFAULT.0 ∷ 0 ∷ [])  -- mask refused
mask_calls = (refl, refl, refl)

-- a child masks what its parent masks, and nothing is pending for it; a thread that is gone has neither
abbrev masks_and_posts : Kernel
masks_and_posts = (runs_at (with_pending 1 10 (with_mask 1 0x204 start_signalling)) 0).kernel

abbrev mask_and_pending : ℕ → Kernel → ℕ × ℕ
mask_and_pending t k = (mask_of t k.signals, pending_of t k.signals)

children_and_gone :
    (map (λ t. mask_and_pending t (had_child 1 masks_and_posts)) (1 ∷ 2 ∷ []) ≡ (0x204, 0x200) ∷ (0x204, 0) ∷ [])  -- of parent and child
    × (map (λ t. mask_and_pending t (gone 1 (had_child 1 masks_and_posts))) (1 ∷ 2 ∷ []) ≡ (0, 0) ∷ (0x204, 0) ∷ [])  -- of both when one is gone
children_and_gone = (refl, refl)

-- A SIGNAL IS DELIVERED

-- a thread that masks 3, for which 10 and 12 are pending. The action of 10 is a handler with these flags, which masks 2 and SIGKILL
abbrev two_pending : ℕ → Signalling
two_pending flags = with_pending 1 10 (with_pending 1 12 (with_mask 1 0x4 (acting 10 (handler flags 0x102))))

abbrev delivered : ℕ → Done
delivered flags = done_signal (record (runs_at (two_pending flags) 0x100B4) { reserved = Some 0x20000 })

-- word n of its frame, which lies at 0x206F0: the least multiple of 16 that is 272 or more below the stack pointer
abbrev word : ℕ → ℕ → Write
word n value = double_written (0x206F0 + 8 * n) value

-- it isn't pending any more, and the other one is; while the handler runs 2 and 10 are masked too; no reservation is left, no
-- instruction was executed, and the process goes on
after_delivery :
    ((delivered 0).files ≡ (
      1,
      record {
        file = record { x = 0 ∷ 0x3FFFFF0000 ∷ 0x206F0 ∷ 0 ∷ 0 ∷ 55 ∷ 0 ∷ 0 ∷ 0 ∷ 0 ∷ 10 ∷ 0 ∷ 0x206F0 ∷ replicate 19 0 };
        pc = 0x10100;
      },
    ) ∷ [])  -- enters its handler
    × (take 7 (delivered 0).entered ≡ word 0 0x100B4 ∷ word 1 0 ∷ word 2 0x20808 ∷ word 3 0 ∷ word 4 0 ∷ word 5 55 ∷ word 6 0 ∷ [])  -- frame begins
    × (drop 31 (delivered 0).entered ≡ word 31 0 ∷ word 32 0x4 ∷ word 33 0 ∷ [])  -- frame ends
    × (pending_of 1 (delivered 0).kernel.signals ≡ 0x800)  -- one is left
    × (mask_of 1 (delivered 0).kernel.signals ≡ 0x206)  -- masked in handler
unfolding all_signals can_write_frame
after_delivery = (refl, refl, refl, refl, refl)

abbrev rest_of : Done → Option ℕ × ℕ × Option End
rest_of d = (d.reserved, d.instructions, d.ended)

-- with SA_NODEFER 10 isn't masked; with SA_RESETHAND its action is the default then, and is as it was without
handler_flags :
    (rest_of (delivered 0) ≡ (None, 0, None))  -- nothing else
    × (mask_of 1 (delivered 0x40000000).kernel.signals ≡ 0x6)  -- not deferred
    × (action_of 10 (delivered 0x40000000).kernel.signals ≡ record { at = 0x10100; flags = 0x40000000; mask = 0x102 })  -- handler stays
    × (action_of 10 (delivered 0x80000000).kernel.signals ≡ record { at = 0; flags = 0x80000000; mask = 0x102 })  -- handler is reset
unfolding all_signals can_write_frame
handler_flags = (refl, refl, refl, refl)

-- with SA_SIGINFO the frame has 1,088 bytes and lies at 0x203C0; a1 and a2 point at its siginfo_t and its ucontext_t, and ra is the
-- second address to return to. It says that the signal was sent, and has the pc at 304 and the mask at 168
informed_delivery :
    ((delivered 4).files ≡ (
      1,
      record {
        file = record { x = 0 ∷ 0x3FFFFF0008 ∷ 0x203C0 ∷ 0 ∷ 0 ∷ 55 ∷ 0 ∷ 0 ∷ 0 ∷ 0 ∷ 10 ∷ 0x203C0 ∷ 0x20440 ∷ replicate 19 0 };
        pc = 0x10100;
      },
    ) ∷ [])  -- enters its handler
    × (take 3 (delivered 4).entered ≡ double_written 0x203C0 10 ∷ double_written 0x203C8 0xFFFFFFFA ∷ double_written 0x203D0 1 ∷ [])  -- who sent it
    × (take 1 (drop 21 (delivered 4).entered) ≡ double_written 0x20468 0x4 ∷ [])  -- mask
    × (take 3 (drop 38 (delivered 4).entered) ≡ double_written 0x204F0 0x100B4 ∷ double_written 0x204F8 0 ∷ double_written 0x20500 0x20808 ∷ [])  -- registers
unfolding all_signals can_write_frame
informed_delivery = (refl, refl, refl, refl)

-- with SA_RESETHAND the default of SIGCHLD comes back, which ignores it: it is dropped for the other thread too
abbrev resets_17 : ℕ → Signalling
resets_17 flags = with_pending 2 17 (with_pending 1 17 (with_thread 1 2 (acting 17 (handler flags 0))))

dropped_when_reset : map (λ flags. pending_of 2 (done_signal (runs_at (resets_17 flags) 0x100B4)).kernel.signals) (0x80000000 ∷ 0 ∷ []) ≡ 0 ∷ 0x10000 ∷ []
unfolding all_signals can_write_frame
dropped_when_reset = refl

-- an action that is no handler: the process is killed by the signal, whatever its stack is, and nothing is written
abbrev result : Here → List Write × Option End
result here = ((done_signal here).entered, (done_signal here).ended)

-- a frame of which a byte can't be written: the process is killed by SIGSEGV; the last frame that fits under the end of the page
killed_at_delivery :
    (map (λ sp. result (with_stack (with_pending 1 15 start_signalling) sp 0x100B4)) (0x20808 ∷ 0x21800 ∷ []) ≡ ([], Some (Killed 15)) ∷ ([], Some (Killed 15)) ∷ [])  -- killed by default
    × (map (λ sp. result (with_stack (with_pending 1 10 handles_10) sp 0x100B4)) (0x21800 ∷ 0x21010 ∷ 8 ∷ [])
    ≡ ([], Some (Killed 11)) ∷ ([], Some (Killed 11)) ∷ ([], Some (Killed 11)) ∷ [])  -- killed by its stack
    × ((result (with_stack (with_pending 1 10 handles_10) 0x2100F 0x100B4)).1 ≡ None)  -- fits
unfolding all_signals can_write_frame
killed_at_delivery = (refl, refl, refl)

-- A HANDLER RETURNS

-- a frame at 0x206F0 with a pc, 55 in t0, a stack pointer, and a mask that has SIGKILL: the thread goes on with them and with no
-- register of the handler's
abbrev returns_from : ℕ → Here
returns_from sp = record (stands handles_10 (with_register (with_register (with_register no_registers 2 sp) 6 9) 17 139) 0x3FFFFF0004) {
  byte = λ a. written (word 0 0x100B4 ∷ word 2 0x20808 ∷ word 5 55 ∷ word 32 0x304 ∷ []) a 0;
}

-- a frame of which a byte can't be read: the process is killed by SIGSEGV
returned_handler :
    ((called (returns_from 0x206F0) 1).files ≡ (1, record { file = record { x = 0 ∷ 0 ∷ 0x20808 ∷ 0 ∷ 0 ∷ 55 ∷ replicate 26 0 }; pc = 0x100B4 }) ∷ [])  -- goes on as before
    × (mask_of 1 (signals_after (returns_from 0x206F0)) ≡ 0x204)  -- mask comes back
    × (map (λ sp. (called (returns_from sp) 1).ended) (0x21EF0 ∷ 0x21EF8 ∷ []) ≡ None ∷ Some (Killed 11) ∷ [])  -- frame is cut
unfolding frame_read
returned_handler = (refl, refl, refl)

-- a frame with SA_SIGINFO at 0x203C0, whose pc was moved on: the call at the second address reads it; a call elsewhere takes its
-- first word for the pc. All of its 1,088 bytes must be readable
abbrev returns_informed : ℕ → ℕ → Here
returns_informed sp pc = record (stands handles_10 (with_register (with_register no_registers 2 sp) 17 139) pc) {
  byte = λ a. written (double_written 0x203C0 0x100B0 ∷ double_written 0x20468 0x304 ∷ double_written 0x204F0 0x100B8 ∷ double_written 0x20500 0x20808 ∷ []) a 0;
}

returned_informed :
    ((called (returns_informed 0x203C0 0x3FFFFF000C) 1).files ≡ (1, record { file = record { x = 0 ∷ 0 ∷ 0x20808 ∷ replicate 29 0 }; pc = 0x100B8 }) ∷ [])  -- goes on further
    × (mask_of 1 (signals_after (returns_informed 0x203C0 0x3FFFFF000C)) ≡ 0x204)  -- mask comes back
    × (map (λ pc. map (λ f. f.1.pc) (called (returns_informed 0x203C0 pc) 1).files) (0x3FFFFF0004 ∷ 0x100B4 ∷ []) ≡ (0x100B0 ∷ []) ∷ (0x100B0 ∷ []) ∷ [])  -- another frame
    × (map (λ sp. (called (returns_informed sp 0x3FFFFF000C) 1).ended) (0x21BC0 ∷ 0x21BC8 ∷ []) ≡ None ∷ Some (Killed 11) ∷ [])  -- frame is cut
unfolding frame_read
returned_informed = (refl, refl, refl, refl)

-- what a delivery wrote, read back
abbrev returns : Here
returns = record (runs_at (delivered 0).kernel.signals 0) {
  file = λ t. record { file = with_register (file_among (delivered 0).files t ((runs_at start_signalling 0).file t)).file 17 139; pc = 0x3FFFFF0004 };
  byte = λ a. written (delivered 0).entered a 0;
}

comes_back : (called returns 1).files ≡ (1, (runs_at start_signalling 0x100B4).file 1) ∷ []
unfolding all_signals can_write_frame frame_read
comes_back = refl

-- FAULTS

-- there is no instruction at 0x100B0, and none at 0x100B2
abbrev fault_of : Done → Option End × List (ℕ × Saved) × ℕ × ℕ
fault_of d = (d.ended, d.files, d.instructions, pending_of 1 d.kernel.signals)

abbrev faults : Signalling → ℕ → Done
faults signals pc = done_exec (runs_at signals pc)

-- where its signal has a handler it becomes pending, and the thread stays; the handler's frame has the pc of the instruction; where
-- it is masked, ignored, or another signal has the handler, the process is killed by it
faults_by_action :
    (fault_of (faults (acting 4 (handler 0 0)) 0x100B0) ≡ (None, [], 1, 0x8))  -- fault is pending
    × (take 1 (done_signal (runs_at (faults (acting 4 (handler 0 0)) 0x100B0).kernel.signals 0x100B0)).entered ≡ word 0 0x100B0 ∷ [])  -- fault is delivered
    × (map (λ signals. fault_of (faults signals 0x100B2))
    (with_mask 1 0x40 (acting 7 (handler 0 0)) ∷ acting 7 ignoring ∷ acting 4 (handler 0 0) ∷ start_signalling ∷ [])
    ≡ replicate 4 (Some (Killed 7), [], 1, 0))  -- fault kills
unfolding all_signals can_write_frame meaning row_of rows
faults_by_action = (refl, refl, refl)

-- a handler with SA_SIGINFO is told of the fault: ILL_ILLOPC, and the address of the instruction; and of one at 0x100B2, which is
-- no multiple of 4, BUS_ADRALN
abbrev told_of : ℕ → ℕ → List Write
told_of s pc = take 3 (done_signal (runs_at (faults (acting s (handler 4 0)) pc).kernel.signals pc)).entered

fault_is_told :
    (told_of 4 0x100B0 ≡ double_written 0x203C0 4 ∷ double_written 0x203C8 1 ∷ double_written 0x203D0 0x100B0 ∷ [])  -- no instruction
    × (told_of 7 0x100B2 ≡ double_written 0x203C0 7 ∷ double_written 0x203C8 1 ∷ double_written 0x203D0 0x100B2 ∷ [])  -- not aligned
unfolding all_signals can_write_frame meaning row_of rows
fault_is_told = (refl, refl)

-- where an access is to lie on a page that isn't mapped, and on one that is, but can't be used so
abbrev some_pages : ℕ → Option ℕ
some_pages a = cond (ltb a 0x6000) None (Some 0)

codes_of_segv :
    map (λ at. (told_by some_pages 0x100B4 (Some (effect.Load at 8 false 5)) 11).code) (0x5000 ∷ 0x5FFC ∷ 0x6000 ∷ []) ≡ 1 ∷ 1 ∷ 2 ∷ []
codes_of_segv = refl

address_of_segv : (told_by some_pages 0x100B4 (Some (effect.Load 0x5008 8 false 5)) 11).address ≡ 0x5008
address_of_segv = refl

-- WAITS

-- futex(0x20000, 0, value, 0), where 0 stands: a thread for which a signal is deliverable doesn't wait; one that masks it does
abbrev would_wait : Signalling → ℕ → Here
would_wait signals value = asks signals 98 0x20000 0 value 0

wait_with_a_signal :
    (answer (would_wait (with_pending 1 10 handles_10) 0) ≡ negative EINTR.0)  -- breaks off
    × (state_after 1 (would_wait (with_pending 1 10 handles_10) 0) ≡ Some (state.Running (record { 0 = 0 })))  -- still runs
    × (answer (would_wait (with_pending 1 10 handles_10) 5) ≡ negative EAGAIN.0)  -- other value first
    × (state_after 1 (would_wait (with_mask 1 0x200 (with_pending 1 10 handles_10)) 0) ≡ Some (state.Waiting 0x20000))  -- waits where masked
unfolding all_signals
wait_with_a_signal = (refl, refl, refl, refl)

-- thread 2 waits at 0x20000, and thread 3 is ready. Thread 1 posts a signal to thread 2
abbrev three : Threads
three = with_waiter 2 0x20000 (with_child (with_child (with_state 1 (state.Running (record { 0 = 0 })) start_threads)))

abbrev posts_to_waiter : Signalling → ℕ → Here
posts_to_waiter signals signal =
    let here = asks (with_thread 1 3 (with_thread 1 2 signals)) 130 2 signal 0 0 in
    record here { kernel = record here.kernel { threads = three; scheduling = record { order = 3 ∷ []; affinities = [] } } }

-- its wait is broken: it finds EINTR in a0, and its pc stays; it is the last ready thread, and waits no more; the signal is pending
abbrev answers : Here → List (ℕ × ℕ × ℕ)
answers here = map (λ p. (p.0, register p.1.file 10, p.1.pc)) (called here 1).files

-- one that would kill it breaks its wait too; one that it masks, or that is ignored, doesn't
broken_waits :
    (answers (posts_to_waiter handles_10 10) ≡ (1, 0, 0x10084) ∷ (2, negative EINTR.0, 0x10080) ∷ [])  -- wait is broken
    × (state_after 2 (posts_to_waiter handles_10 10) ≡ Some state.Ready)  -- is ready then
    × ((called (posts_to_waiter handles_10 10) 1).kernel.scheduling.order ≡ 3 ∷ 2 ∷ [])  -- last ready
    × ((called (posts_to_waiter handles_10 10) 1).kernel.threads.waiters ≡ [])  -- no waiter is left
    × (pending_of 2 (signals_after (posts_to_waiter handles_10 10)) ≡ 0x200)  -- is pending then
    × (map (state_after 2) (posts_to_waiter start_signalling 15 ∷ posts_to_waiter (with_mask 1 0x200 handles_10) 10 ∷ posts_to_waiter start_signalling 17 ∷ [])
    ≡ Some state.Ready ∷ Some (state.Waiting 0x20000) ∷ Some (state.Waiting 0x20000) ∷ [])  -- which break
unfolding all_signals
broken_waits = (refl, refl, refl, refl, refl, refl)

-- SEQUENCES

-- thread 1 has an area at 0x20000 with this signature, whose sequence begins at 0x100B0 and has its abort handler at 0x20044
abbrev with_area : ℕ → ℕ → Signalling → Here
with_area sig pc signals =
    let here = runs_at signals pc in
    record here { kernel = record here.kernel { areas = (1, record { at = 0x20000; sig = sig }) ∷ [] } }

abbrev in_sequence : ℕ → Done
in_sequence pc = done_signal (with_area 0xF1401073 pc (with_pending 1 10 handles_10))

-- inside, the frame has the abort handler; before it, the pc. First the pointer of the area is cleared, and no other word of it is
-- written; the check comes before the default action, and what is bad kills by SIGSEGV
delivered_in_sequence :
    (map (λ pc. (in_sequence pc).interrupted) (0x100AC ∷ 0x100B0 ∷ 0x100BC ∷ 0x100C0 ∷ [])
    ≡ Some comes_to.Cleared ∷ Some (comes_to.Aborted 0x20044) ∷ Some (comes_to.Aborted 0x20044) ∷ Some comes_to.Cleared ∷ [])  -- aborts first
    × (map (λ pc. take 2 (in_sequence pc).entered) (0x100AC ∷ 0x100B0 ∷ [])
    ≡ (double_written 0x20008 0 ∷ word 0 0x100AC ∷ []) ∷ (double_written 0x20008 0 ∷ word 0 0x20044 ∷ []) ∷ [])  -- handler returns to
    × (pcs (in_sequence 0x100B4).files ≡ (1, 0x10100) ∷ [])  -- enters from sequence
    × (map (λ sig. result (with_area sig 0x100B4 (with_pending 1 15 start_signalling))) (0xF1401072 ∷ 0xF1401073 ∷ [])
    ≡ ([], Some (Killed 11)) ∷ (double_written 0x20008 0 ∷ [], Some (Killed 15)) ∷ [])  -- killed by its signature
unfolding all_signals can_write_frame are_readable number_at
delivered_in_sequence = (refl, refl, refl, refl)

-- LOGS

-- `addi x10, x0, 1`, `addi x11, x0, 15`, `addi x17, x0, 130`, `ecall`, `lui x8, 0x20`, `sd x0, 0(x8)`: a thread posts signal 15 to
-- itself, and stores then
abbrev kills_itself : Setting
kills_itself = code_and_data (0x13 ∷ 0x05 ∷ 0x10 ∷ 0x00 ∷ 0x93 ∷ 0x05 ∷ 0xF0 ∷ 0x00 ∷ 0x93 ∷ 0x08 ∷ 0x20 ∷ 0x08 ∷ 0x73 ∷ 0x00 ∷ 0x00 ∷ 0x00
    ∷ 0x37 ∷ 0x04 ∷ 0x02 ∷ 0x00 ∷ 0x23 ∷ 0x30 ∷ 0x04 ∷ 0x00 ∷ [])

abbrev posted_log : List Entry
posted_log = entry kind.Run 0x100B0 ∷ entry kind.Exec 0x100B0 ∷ entry kind.Exec 0x100B4 ∷ entry kind.Exec 0x100B8 ∷ entry kind.Exec 0x100BC ∷ []

-- `run` delivers a signal that was posted where the hart has no credit, as where the thread has begun to run
abbrev begun_again : List Entry
begun_again = posted_log ++ entry kind.Preempt 0x100C0 ∷ entry kind.Run 0x100C0 ∷ []

run_delivers : next_entry kills_itself 1 0 (history kills_itself begun_again) ≡ Some (entry kind.Signal 0x100C0)
unfolding all_signals has_ended choice_at next_entry pick is_register_only history done meaning row_of rows
run_delivers = refl

-- LAWS

-- a signal that is pending isn't ignored: the log is a block run, 15 is pending at its end, and its action doesn't ignore it
posted_run : IsBlockRun kills_itself posted_log
unfolding all_signals decide history done meaning row_of rows
posted_run = block_run kills_itself posted_log (((((tt, refl, refl), refl, refl), refl, refl), refl, refl), refl, refl)

abbrev signals_posted : Signalling
signals_posted = (kernel kills_itself (history kills_itself posted_log)).signals

pending_is_heeded :
    (has_signal (pending_of 1 signals_posted) 15 ≡ true)  -- the premise
    × (is_ignored 15 (action_of 15 signals_posted) ≡ false)  -- the conclusion
unfolding all_signals history done meaning row_of rows
pending_is_heeded = (refl, refl)

-- a thread that waits has no signal that can be delivered: after `lui x10, 0x20`, `addi x17, x0, 98`, `ecall` the only thread waits in
-- futex(2) at 0x20000, where 0 stands
abbrev waits_alone : Setting
waits_alone = code_and_data (0x37 ∷ 0x05 ∷ 0x02 ∷ 0x00 ∷ 0x93 ∷ 0x08 ∷ 0x20 ∷ 0x06 ∷ 0x73 ∷ 0x00 ∷ 0x00 ∷ 0x00 ∷ [])

abbrev waiting_log : List Entry
waiting_log = entry kind.Run 0x100B0 ∷ entry kind.Exec 0x100B0 ∷ entry kind.Exec 0x100B4 ∷ entry kind.Exec 0x100B8 ∷ []

waiting_run : IsBlockRun waits_alone waiting_log
unfolding all_signals decide history done are_readable number_at meaning row_of rows
waiting_run = block_run waits_alone waiting_log ((((tt, refl, refl), refl, refl), refl, refl), refl, refl)

waits_without_signal : waits (kernel waits_alone (history waits_alone waiting_log)).threads 1
    × (next_for 1 (kernel waits_alone (history waits_alone waiting_log)).signals ≡ None)
unfolding all_signals history done are_readable number_at meaning row_of rows
waits_without_signal = ((0x20000, refl), refl)
