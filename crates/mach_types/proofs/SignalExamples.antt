-- Worked examples: the definitions of signals and of their frames, computed.
use Rattle.std.proofs.Common.{◌≡◌, ℕ, true, false, Option, Some, None, List, [], ◌∷◌, ◌++◌, replicate, length, take, drop, map, refl, if◌then◌else◌, nat_lt, nat_le}
use Rattle.mach_types.specs.Bytes.{written}
use Rattle.mach_types.specs.Registers.{with_register, no_registers}
use Rattle.mach_types.specs.Kernel.Signals as signals
use Rattle.mach_types.specs.Kernel.SignalFrames as frames
use Rattle.mach_types.specs.declared.signal_words.Action.{Action}
use Rattle.mach_types.specs.declared.signal_words.Fault.{Fault}
use Rattle.mach_types.specs.declared.threads.Saved.{Saved}
use Rattle.mach_types.specs.declared.user_memory.Write.TheVariants.{Stored}

-- SIGNALS

-- signal 11 is bit 10 of a set
pub signal_11 : signals.only 11 ≡ 0x400
signal_11 = refl

pub signal_11_is_there : signals.has_signal 0x401 11 ≡ true
signal_11_is_there = refl

pub signal_10_is_not : signals.has_signal 0x401 10 ≡ false
signal_10_is_not = refl

-- of all 31 signals, 9 and 19 can't be masked
pub all_that_can_be_masked : signals.maskable 0x7fffffff ≡ 0x7ffbfeff
all_that_can_be_masked = refl

-- signals 1 and 2 are added to a mask that has 2 and 3, taken from it, and set with 9
pub blocked : signals.changed_mask 0 0x3 0x6 ≡ 0x7
blocked = refl

pub unblocked : signals.changed_mask 1 0x3 0x6 ≡ 0x4
unblocked = refl

pub set : signals.changed_mask 2 0x103 0x6 ≡ 0x3
set = refl

-- actions
abbrev handler : Action
handler = record { at = 0x10000; flags = 0; mask = 0x200 }

abbrev ignoring : Action
ignoring = record { at = 1; flags = 0; mask = 0 }

pub child_is_ignored_by_default : signals.is_ignored 17 signals.default_action ≡ true
child_is_ignored_by_default = refl

pub user_signal_is_not : signals.is_ignored 10 signals.default_action ≡ false
user_signal_is_not = refl

pub a_handler_ignores_nothing : signals.is_ignored 17 handler ≡ false
a_handler_ignores_nothing = refl

pub no_new_action_of_9 : signals.refuses_action 9 (Some handler) ≡ true
no_new_action_of_9 = refl

pub action_of_9_is_read : signals.refuses_action 9 None ≡ false
action_of_9_is_read = refl

pub no_action_of_32 : signals.refuses_action 32 None ≡ true
no_action_of_32 = refl

-- two threads; 15 and 10 are posted to the second one
abbrev two : signals.Signalling
two = signals.posted 2 10 (signals.posted 2 15 (signals.with_thread 1 2 (signals.with_mask 1 0x1 signals.start_signalling)))

pub child_has_its_parents_mask : signals.mask_of 2 two ≡ 0x1
child_has_its_parents_mask = refl

pub both_are_pending : signals.pending_of 2 two ≡ 0x4200
both_are_pending = refl

pub nothing_for_the_parent : signals.pending_of 1 two ≡ 0
nothing_for_the_parent = refl

pub lowest_comes_first : signals.next_for 2 two ≡ Some 10
unfolding signals.all_signals
lowest_comes_first = refl

pub masked_waits : signals.next_for 2 (signals.with_mask 2 0x200 two) ≡ Some 15
unfolding signals.all_signals
masked_waits = refl

pub none_is_next : signals.next_for 1 two ≡ None
unfolding signals.all_signals
none_is_next = refl

pub one_is_left : signals.pending_of 2 (signals.without_pending 2 10 two) ≡ 0x4000
one_is_left = refl

-- 17 is dropped under its default, and is pending under a handler; an action that ignores it drops it
pub dropped_by_default : signals.posted 2 17 two ≡ two
dropped_by_default = refl

abbrev caught : signals.Signalling
caught = signals.posted 2 17 (signals.with_action 17 handler two)

pub pending_under_a_handler : signals.pending_of 2 caught ≡ 0x14200
pending_under_a_handler = refl

pub dropped_by_ignoring : signals.pending_of 2 (signals.with_action 17 ignoring caught) ≡ 0x4200
dropped_by_ignoring = refl

pub dropped_by_the_default : signals.pending_of 2 (signals.with_action 17 signals.default_action caught) ≡ 0x4200
dropped_by_the_default = refl

-- a load of 0x5000 by thread 2 faults: 11 is pending beside the others, with what the fault says; 10 says nothing of a fault
abbrev bad_load : Fault
bad_load = record { signal = 11; code = 1; address = 0x5000 }

abbrev faulted : signals.Signalling
faulted = signals.with_fault 2 bad_load two

pub fault_is_pending : signals.pending_of 2 faulted ≡ 0x4600
fault_is_pending = refl

pub fault_is_kept : signals.fault_of 2 11 faulted ≡ Some bad_load
fault_is_kept = refl

pub other_signals_have_none : map (λ s. signals.fault_of 2 s faulted) (10 ∷ 15 ∷ []) ≡ None ∷ None ∷ []
other_signals_have_none = refl

pub others_have_none : signals.fault_of 1 11 faulted ≡ None
others_have_none = refl

-- 11 is posted too: the fault stays. It goes once 11 is taken, and stays once 10 is
pub posting_keeps_it : signals.fault_of 2 11 (signals.posted 2 11 faulted) ≡ Some bad_load
posting_keeps_it = refl

pub taken_with_its_signal : signals.newest_fault 2 (signals.without_pending 2 11 faulted) ≡ None
taken_with_its_signal = refl

pub stays_with_its_signal : signals.newest_fault 2 (signals.without_pending 2 10 faulted) ≡ Some bad_load
stays_with_its_signal = refl

pub dropped_with_its_signal : signals.newest_fault 2 (signals.with_action 11 ignoring faulted) ≡ None
dropped_with_its_signal = refl

-- SIGNAL FRAMES

-- 272 below the stack pointer at the start; rounded down to 16; below address 0
pub frame_at_start : frames.frame_at handler 0x3ffff3ff30 ≡ 0x3ffff3fe20
frame_at_start = refl

pub frame_is_aligned : frames.frame_at handler 0x1009 ≡ 0xef0
frame_is_aligned = refl

pub frame_below_zero : frames.frame_at handler 8 ≡ 0xfffffffffffffef0
frame_below_zero = refl

-- with SA_SIGINFO 1,088 below, rounded down to 16
abbrev informed : Action
informed = record { at = 0x10000; flags = 4; mask = 0x200 }

pub information_at_start : frames.frame_at informed 0x3ffff3ff30 ≡ 0x3ffff3faf0
information_at_start = refl

-- a thread that is interrupted, with sp 0x2000, ra 5 and t6 7
abbrev interrupted : Saved
interrupted = record { file = with_register (with_register (with_register no_registers 1 5) 2 0x2000) 31 7; pc = 0x10118 }

pub first_words : take 3 (frames.frame_words interrupted 0x200) ≡ 0x10118 ∷ 5 ∷ 0x2000 ∷ []
first_words = refl

pub last_words : drop 31 (frames.frame_words interrupted 0x200) ≡ 7 ∷ 0x200 ∷ 0 ∷ []
last_words = refl

pub frame_has_34_words : length (frames.frame_writes 10 handler None interrupted 0x200) ≡ 34
frame_has_34_words = refl

pub second_write : take 1 (drop 1 (frames.frame_writes 10 handler None interrupted 0x200)) ≡ Stored (record { at = 0x1ef8; size = 8; value = 5 }) ∷ []
second_write = refl

pub frame_needs_272_bytes : frames.can_write_frame (λ a. nat_le 0x1ef0 a) handler interrupted ≡ true
unfolding frames.can_write_frame
frame_needs_272_bytes = refl

pub one_byte_less : frames.can_write_frame (λ a. nat_lt a 0x1fff) handler interrupted ≡ false
unfolding frames.can_write_frame
one_byte_less = refl

-- the handler of signal 10 starts
abbrev started : Saved
started = frames.handler_file 10 handler interrupted

pub handler_starts : started.pc ≡ 0x10000
handler_starts = refl

pub handler_registers : take 13 started.file.x ≡ 0 ∷ 0x3fffff0000 ∷ 0x1ef0 ∷ 0 ∷ 0 ∷ 0 ∷ 0 ∷ 0 ∷ 0 ∷ 0 ∷ 10 ∷ 0 ∷ 0x1ef0 ∷ []
handler_registers = refl

pub handler_masks_both : frames.handler_mask 11 handler 0x1 ≡ 0x601
handler_masks_both = refl

pub no_defer : frames.handler_mask 11 (record handler { flags = 0x40000000 }) 0x1 ≡ 0x201
no_defer = refl

pub action_is_reset : frames.entered_action (record handler { flags = 0x80000000 }) ≡ record { at = 0; flags = 0x80000000; mask = 0x200 }
action_is_reset = refl

pub action_stays : frames.entered_action handler ≡ handler
action_stays = refl

-- the handler returns: the frame's words are read where they were written, and give back the file; 9 isn't masked
abbrev memory : ℕ → ℕ
memory a = written (frames.frame_writes 10 handler None interrupted 0x302) a 0

pub frame_is_read : frames.frame_read (λ a. Some (memory a)) started ≡ Some (frames.frame_words interrupted 0x302)
unfolding frames.frame_read
frame_is_read = refl

pub frame_is_cut : frames.frame_read (λ a. if nat_lt a 0x1fff then Some (memory a) else None) started ≡ None
unfolding frames.frame_read
frame_is_cut = refl

pub file_comes_back : frames.restored (frames.frame_words interrupted 0x302) ≡ interrupted
file_comes_back = refl

pub mask_comes_back : frames.restored_mask (frames.frame_words interrupted 0x302) ≡ 0x202
mask_comes_back = refl

-- WITH SA_SIGINFO

-- 11 comes of the fault: si_signo 11, si_code SEGV_MAPERR, si_addr; 10 was posted: SI_TKILL, si_pid 1
pub fault_is_told : take 4 (frames.info_words 11 (Some bad_load)) ≡ 11 ∷ 1 ∷ 0x5000 ∷ 0 ∷ []
fault_is_told = refl

pub posting_is_told : take 4 (frames.info_words 10 None) ≡ 10 ∷ 0xfffffffa ∷ 1 ∷ 0 ∷ []
posting_is_told = refl

-- the frame has 136 words; uc_stack has no stack; uc_sigmask is at 128 + 40, the pc at 128 + 176, ra behind it
abbrev words : List ℕ
words = frames.words_of_frame 11 informed (Some bad_load) interrupted 0x302

pub frame_has_136_words : length words ≡ 136
frame_has_136_words = refl

pub context_begins_so : take 6 (drop 16 words) ≡ 0 ∷ 0 ∷ 0 ∷ 2 ∷ 0 ∷ 0x302 ∷ []
context_begins_so = refl

pub registers_are_there : take 3 (drop 38 words) ≡ 0x10118 ∷ 5 ∷ 0x2000 ∷ []
registers_are_there = refl

pub rest_is_zero : drop 70 words ≡ replicate 66 0
rest_is_zero = refl

pub frame_needs_1088_bytes : map (λ low. frames.can_write_frame (nat_le low) informed interrupted) (0x1bc0 ∷ 0x1bc1 ∷ []) ≡ true ∷ false ∷ []
unfolding frames.can_write_frame
frame_needs_1088_bytes = refl

-- a1 is the siginfo_t, a2 the ucontext, and ra the second address to return to
abbrev started_with_info : Saved
started_with_info = frames.handler_file 11 informed interrupted

pub informed_registers : take 13 started_with_info.file.x ≡ 0 ∷ 0x3fffff0008 ∷ 0x1bc0 ∷ 0 ∷ 0 ∷ 0 ∷ 0 ∷ 0 ∷ 0 ∷ 0 ∷ 11 ∷ 0x1bc0 ∷ 0x1c40 ∷ []
informed_registers = refl

-- the handler adds 4 to the pc in the frame and returns: the call at the second address reads this frame, one elsewhere 34 words
abbrev moved : ℕ → Option ℕ
moved a = Some (written (frames.frame_writes 11 informed (Some bad_load) interrupted 0x302 ++ Stored (record { at = 0x1cf0; size = 8; value = 0x1011c }) ∷ []) a 0)

abbrev returning : Saved
returning = record started_with_info { pc = 0x3fffff000c }

pub moved_frame_is_read : frames.frame_read moved returning ≡ Some (frames.frame_words (record interrupted { pc = 0x1011c }) 0x302)
unfolding frames.frame_read
moved_frame_is_read = refl

pub elsewhere_it_is_34_words : frames.frame_read moved (record returning { pc = 0x3fffff0004 }) ≡ Some (take 34 words)
unfolding frames.frame_read
elsewhere_it_is_34_words = refl

pub whole_frame_is_wanted : map (λ high. frames.frame_read (λ a. if nat_lt a high then moved a else None) returning) (0x1fff ∷ []) ≡ None ∷ []
unfolding frames.frame_read
whole_frame_is_wanted = refl
