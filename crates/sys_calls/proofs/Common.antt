-- The words that most proofs of this crate speak of, in one place for their imports.
pub use Rattle.block_model.proofs.Laws.{IsAgreed, agreed_called, any_live, areas_fit, child_not_held, child_same, ended_idle, left_idle, live_changed, longest_waits, ready_listed, registered_areas, running_is, state_now, tables_allowed, tables_woken, waited_idle, waits_elsewhere, requeue_by, requeue_keeps, requeued_same, state_over, tables_requeued, woken_same}
pub use Rattle.block_model.specs.Calls.{call_of, called}
pub use Rattle.block_model.specs.Calls.Affinity.{getcpu, is_usable, moved_off, sched_getaffinity, sched_setaffinity, set_at, set_given, setaffinity_errors, written_unless_zero}
pub use Rattle.block_model.specs.Calls.Answers.{CallDone, Errors, are_readable, are_writable, argument, call_number, double_written, int_argument, killed_in_call, negative, number_at, refused, returned, said, unless, word_written}
pub use Rattle.block_model.specs.Calls.Barriers.{answers, membarrier, running_harts}
pub use Rattle.block_model.specs.Calls.Cloning.{are_flags, child_file, clone, clone_child_cleartid, clone_child_settid, clone_parent_settid, has_flag, may_write, with_new_child}
pub use Rattle.block_model.specs.Calls.Console.{Span, all_readable, bytes_from, bytes_of, is_elsewhere, room, spans_at, total, write, write_spans, writev, wrote}
pub use Rattle.block_model.specs.Calls.Ending.{clearing, clears, ended_with, exit_group, is_last, last_exits, one_exits, woken_at_exit}
pub use Rattle.block_model.specs.Calls.Futexes.{Woken, answered_wait, counted, futex, futex_errors, futex_requeue, futex_wait, futex_wake, is_wait, is_wake, move, nobody, requeue, requeue_errors, wait_errors, wake, woken_first}
pub use Rattle.mach_types.specs.Kernel.Futexes.{operation}
pub use Rattle.block_model.specs.Calls.Memory.{are_mapping_flags, changed_unless, mapped_or_refused, may_break, mmap, mprotect, permission_here, taken_by, unless_refused, zeros_if_mapped}
pub use Rattle.block_model.specs.Calls.Sequences.{registers, registers_or_refused, rseq, unregisters, unregisters_or_refused}
pub use Rattle.block_model.specs.Calls.Signals.{action_given, action_written, broken_wait, is_below_one, masked, post, refuses_signal, resumed, rt_sigaction, rt_sigprocmask, rt_sigreturn, send, tgkill, tkill, waits_in_vain, with_posted}
pub use Rattle.block_model.specs.Here.{Here, is_writable, memory}
pub use Rattle.block_model.specs.History.{file_among}
pub use Rattle.block_model.specs.Ids.{id_of, without_id}
pub use Rattle.block_model.specs.Kernel.{cleared, first_kernel, for_barriers, gone, had_child, left, next_number, paged, printed, registered, requeued, restricted, signalled, unregistered, waited, woken}
pub use Rattle.block_model.specs.Tables.{AreSignalsOfLive, IsTables, on}
pub use Rattle.kernel_threads.specs.Table.{IsTable, Table, answering, forget, interrupted, saved_of, with_answer, with_saved, with_start}
pub use Rattle.mach_types.proofs.Laws.{each_byte-past, each_byte-same, each_byte-split, map_filters, map_stays, next_is_new, same_numbers, state_of-with_child_same, state_of-without_same, zeros_of-at}
pub use Rattle.mach_types.specs.Bytes.{after_writes, each_byte, joined, word_at, written}
pub use Rattle.mach_types.specs.Kernel.Areas.{Words, are_words_writable, area_of, is_area_of, with_area, without_area, words_entered, words_on, words_unregistered, words_written}
pub use Rattle.mach_types.specs.Kernel.Barriers.{answer_of, command, refusal, registered_after, registered_by}
pub use Rattle.mach_types.specs.Kernel.PageCalls.{answer_unless, break_run, free_past, mapped_at, may_move_break, mmap_answer, mprotect_refusal, munmap_refusal, permission_for, protected, unmapped}
pub use Rattle.mach_types.specs.Kernel.Pages.{PageRun, Pages, can_read, can_write, is_in, mapped_count, pages_of, permission_at, permission_of, run, run_over, zeros_of}
pub use Rattle.mach_types.specs.Kernel.Scheduling.{Scheduling, affinity_of, harts_in, has_hart, is_of, with_affinity, with_ready, with_thread}
pub use Rattle.mach_types.specs.Kernel.SignalFrames.{frame_read}
pub use Rattle.mach_types.specs.Kernel.Signals.{Signalling, acted, action_of, changed_mask, mask_of, next_for, posted, refuses_action, refuses_how, with_mask}
pub use Rattle.mach_types.specs.Kernel.Threads.{IsThreads, Thread, Threads, clear_if, clear_of, is_full, is_live, is_ready_state, is_waiting_state, longest_waiter, numbers, running_on, runs, state_of, thread_of, waits, with_child, with_clear, with_state, with_waiter, with_woken, without}
pub use Rattle.mach_types.specs.Registers.{register}
pub use Rattle.mach_types.specs.declared.barriers.Answer.{Answer}
pub use Rattle.mach_types.specs.declared.barriers.Registered.{Registered}
pub use Rattle.mach_types.specs.declared.errors.Errno.{Errno}
pub use Rattle.mach_types.specs.declared.errors.TheConstants.{EAGAIN, EFAULT, EINTR, EINVAL, ENOSPC, ENOSYS, EPERM, ESRCH}
pub use Rattle.mach_types.specs.declared.kernel_words.TheConstants.{CONSOLE_ROOM, MOST_PROT}
pub use Rattle.mach_types.specs.declared.limits.End.TheVariants.{Killed}
pub use Rattle.mach_types.specs.declared.sequences.Area.{Area}
pub use Rattle.mach_types.specs.declared.signal_words.Action.{Action}
pub use Rattle.mach_types.specs.declared.signals.TheConstants.{SIGSEGV}
pub use Rattle.mach_types.specs.declared.threads.Saved.{Saved}
pub use Rattle.mach_types.specs.declared.threads.ThreadState.TheVariants.{Ready, Waiting}
pub use Rattle.mach_types.specs.declared.user_memory.Write.{Write}
pub use Rattle.page_map.specs.Map.{IsAlike, Map, Page, are_visible, break_in, break_start_in, byte_at, byte_in, can_write_in, code_in, free_in, held_in, held_over, page_in, permission_in}
pub use Rattle.page_map.specs.MapLaws.{byte_in-ends, byte_in-readable, page_in-past}
pub use Rattle.rv_inst.specs.Words.{signed_32, sum_64, word}
pub use Rattle.std.proofs.Common.{Bool, Err, IsErr, IsErrAnd, IsOk, List, None, Ok, OnOk, Option, Result, Some, [], add-one, ap, append-nil, append_assoc, arith, cond, drop, eqb, false, inl, inr, is_some, leb, length, length-append, ltb, map, min, nat_lt, not, of_z, pos, refl, rules, subst, suc, sym, take, to_z, true, unwrap_or, w32, w64, zero, ℕ, ℤ, ◌%◌, ◌&&◌, ◌*◌, ◌++◌, ◌+◌, ◌-◌, ◌/◌, ◌<◌, ◌^◌, ◌||◌, ◌∙◌, ◌∷◌, ◌≡◌, ◌≢◌, ◌≤◌, ◌⊎◌}
pub use Rattle.std.proofs.lemmas.Bool.{OnTrue_at, and_parts, and_right, cases_eq, cases_lt, cond-false, cond-true, eq-eqb, eqb-true, false≢true, le-leb, le-ltb, leb-true, lt-leb, lt-ltb, ltb-false, ltb-true, ne_eqb, not_from_false, not_from_true}
pub use Rattle.std.proofs.lemmas.Int.{of_z-to_z}
pub use Rattle.std.proofs.lemmas.List.{get_or-set_same, length-map, length-take, map-append, set-set}
pub use Rattle.std.specs.List.{list_any}
pub use Rattle.std.specs.Option.{option_map, option_map_or}
pub use Rattle.sys_calls.specs.Answered.{AreTables, IsAnswered, IsCaller, IsEntered, IsRead}
pub use Rattle.sys_calls.specs.Chosen.{setaffinity_with}
pub use Rattle.sys_calls.specs.Cloned.{can_write_numbers, can_write_word, clear_asked, cloned, numbers_written}
pub use Rattle.sys_calls.specs.Joined.{write_joined}
pub use Rattle.sys_calls.specs.Made.{AreSaved, HasPages, HoldsPages, IsAnswer, IsAt, IsMade, IsOwnCall, StandsSo, barrier_of, gives_up, process_end}
pub use Rattle.sys_calls.specs.Registered.{HoldAreas, area_asked, areas_by_number, int_in, unregistration_asked}
pub use Rattle.sys_calls.specs.Remapped.{IsRemapped}
pub use Rattle.sys_calls.specs.Signalled.{HoldSignals, mask_changed, sigaction_with, sigprocmask_done}
pub use Rattle.sys_calls.specs.Tables.{HoldsTables}
pub use Rattle.sys_calls.specs.Woken.{IsOnward, IsWoken, compare_errors, futex_of}
pub use Rattle.sys_calls.specs.declared.calling.CallEnd.{CallEnd}
pub use Rattle.sys_calls.specs.declared.kernel.Kernel.{Kernel}
pub use Rattle.sys_calls.specs.declared.rseq_areas.RegisteredArea.{RegisteredArea}
unfoldable pub use Rattle.sys_calls.specs.Signalled.{pass_action}
