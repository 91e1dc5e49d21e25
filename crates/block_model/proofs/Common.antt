-- The words that several proofs of this crate speak of, in one place for their imports.
pub use Rattle.block_model.specs.Acts.{Sequence, abort_of, begun_with, cut_or, end_at_verdict, end_before, end_so_far, hanging, hanging_after, hanging_moved, has_died, has_killed, is_inside_at, is_taken_in, moved_out, sequence_on, taken_up, with_event}
pub use Rattle.block_model.specs.Beside.{Neighbour, is_in_segment, or_in_segment, with_segment}
pub use Rattle.block_model.specs.Calls.{called}
pub use Rattle.block_model.specs.Calls.Answers.{CallDone, are_writable, argument, call_number, double_written, int_argument, killed_in_call, negative, returned, said, word_written}
pub use Rattle.block_model.specs.Calls.Cloning.{child_file, clone_child_cleartid, has_flag, with_new_child}
pub use Rattle.block_model.specs.Calls.Ending.{clears, woken_at_exit}
pub use Rattle.block_model.specs.Calls.Futexes.{answered_wait, anyone, requeue, wake}
pub use Rattle.block_model.specs.Calls.Memory.{lies_waiting_on, taken_by}
pub use Rattle.block_model.specs.Calls.Signals.{broken_wait, resumed}
pub use Rattle.block_model.specs.Choosing.{Luck, is_choice, luck, luck_after, pick_with, sight_with}
pub use Rattle.block_model.specs.Deciding.{decide_in, entry_in, event, final, number_of, over_at, pc_in, thread_in, unless}
pub use Rattle.block_model.specs.ErrorCalls.{GivesError, IsError}
pub use Rattle.block_model.specs.Events.{done_of, refusal_of}
pub use Rattle.block_model.specs.Events.Drain.{done_drain_of, refusal_drain_of}
pub use Rattle.block_model.specs.Events.Exec.{by_call, by_effect, by_outcome, called_here, done_exec, done_exec_by, fault_told, has_handler, is_held, next_effect, next_fault, one_instruction, others_gate, outcome_of, refusal_exec, refusal_exec_by}
pub use Rattle.block_model.specs.Events.Finish.{done_done, done_done_by, refusal_done_by, refusal_return}
pub use Rattle.block_model.specs.Events.Preempt.{done_preempt_by, refusal_preempt_by, unless_in_barrier, unless_waiting}
pub use Rattle.block_model.specs.Events.Run.{done_killed, done_run, done_running, lives_on, refusal_run, refusal_run_by}
pub use Rattle.block_model.specs.Events.Signal.{done_next, done_signal, done_signal_by, file_interrupted, handled, handled_unless_killed, kills, refusal_delivery, refusal_signal, refusal_signal_by, signals_handled, signals_taken}
pub use Rattle.block_model.specs.Events.Take.{done_take, done_take_by, killed_by, only_took, refusal_take, took_and_interrupted}
pub use Rattle.block_model.specs.Footprints.{AreApart, Footprint, bytes_of_all, has_byte, have_byte, meets}
pub use Rattle.block_model.specs.Here.{Barrier, Done, Here, is_storable, is_writable, memory, memory_in, nothing, nothing_with, reached, runs, view, view_of_all, waiting_here}
pub use Rattle.block_model.specs.History.{Event, History, awaits, byte, can_be_written, drains, ended, events, file, file_among, here_in_history, is_of_hart, kernel, lost_after, ran, requests, restart, running, stores, waiting}
pub use Rattle.block_model.specs.Ids.{AreIdsApart, IsLeastFree, held_ids, id_of, is_id_of, is_taken, next_id, without_id}
pub use Rattle.block_model.specs.Instruction.{fault_by, fetched, instruction_of}
pub use Rattle.block_model.specs.Kernel.{cleared, drawn, first_kernel, for_barriers, gone, had_child, left, next_number, paged, printed, registered, requeued, restricted, rows_changed, signalled, unregistered, waited, woken}
pub use Rattle.block_model.specs.Plain.{Plain, apply, here_in_plain, here_of, plain_decide, plain_end, plain_next, plain_over, plain_solo_choice, plain_start}
pub use Rattle.block_model.specs.Record.{Kernel}
pub use Rattle.block_model.specs.Replay.{AllAnswer, Ask, checked, extended, is_as_said, play_line, script_of}
pub use Rattle.block_model.specs.Requests.{awaits_after, awaits_of_own, requests_after, restart_after, restarts_at, with_hart, without_hart}
pub use Rattle.block_model.specs.Run.{IsAllowedLog, IsBlockRun, IsRunHistory}
pub use Rattle.block_model.specs.Sequences.{area_here, can_write_words, files_interrupted, interruption_here, is_inside_here, is_inside_waiting, words_to}
pub use Rattle.block_model.specs.Setting.{Seen, Setting}
pub use Rattle.block_model.specs.Sights.{first_ready, is_deliverable_on, is_local_on, sight_in, thread}
pub use Rattle.block_model.specs.Solo.{IsSolo, solo_choice, solo_rule}
pub use Rattle.block_model.specs.Standing.{IsGoodHere, IsSound, MayEnter}
pub use Rattle.block_model.specs.Tables.{AreOfLive, AreSignalsOfLive, IsHeld, IsTables, on}
pub use Rattle.block_model.specs.Whole.{EndsWhole, FindsBad, GoesOnWith, HasCause, IsCutProperly, IsDeadBy, IsLeftNull, IsWholeHistory, RunsThroughout, WasTouched, before_last, touched_in, touches, watched_at}
pub use Rattle.block_model.specs.declared.acts.SeqEnd.{SeqEnd}
pub use Rattle.block_model.specs.declared.refusals.Refused.{Refused}
pub use Rattle.block_model.specs.declared.refusals.Refused.TheVariants.{Ended, Full, NotEnabled}
pub use Rattle.chooser.specs.declared.chooser.Pick.{Pick}
pub use Rattle.mach_types.proofs.Laws.{KeepsRows, each_page-at, eqb_same, filtered_same, has_hart-harts_that, keeps_clear, map_filters, map_stays, next_is_new, numbers-with_rows, running_on-with_rows, same_numbers, state_of-with_child_other, state_of-with_child_same, state_of-with_rows, state_of-with_state_other, state_of-with_state_same, state_of-without_other, state_of-without_same, times_cons, times_filtered_other, times_push, word_at-read}
pub use Rattle.mach_types.specs.Bytes.{all_stored, byte_after, byte_of, byte_over, each_byte, overlay, word_at, written}
pub use Rattle.mach_types.specs.Events.{choice_of, choice_with, is_instruction, is_preempt, nature_of}
pub use Rattle.mach_types.specs.Kernel.Areas.{Words, are_words_writable, area_of, can_read_area, can_read_descriptor, descriptor_at, has_flags, interruption, is_area_of, is_clearable, is_inside, is_inside_named, is_out_of_range, is_signed, named, named_by, pointer_of, sequence_of, without_area, words_entered, words_on, words_written, writes_of}
pub use Rattle.mach_types.specs.Kernel.Pages.{PageRun, Pages, can_read, can_write, is_in, pages_of, permission_at, permission_of, run}
pub use Rattle.mach_types.specs.Kernel.Scheduling.{Scheduling, affinity_of, first_for, forget, has_hart, is_of, set_if, start_scheduling, with_affinity, with_ready}
pub use Rattle.mach_types.specs.Kernel.SignalFrames.{entered_action, frame_at, frame_size, frame_words, frame_writes, handler_file, handler_mask, restored_mask, stack_pointer, word_before, words_at, words_stored}
pub use Rattle.mach_types.specs.Kernel.Signals.{Signalling, acted, action_of, default_action, dropped, fault_if, fault_of, has_signal, is_handler, is_ignored, joined, less, mask_if, mask_of, next_for, only, pending_of, post_if, posted, set_action, start_signalling, take_if, with_fault, with_mask, with_pending, with_thread, without_pending, without_signal}
pub use Rattle.mach_types.specs.Kernel.Threads.{IsThreads, Thread, Threads, clear_if, clear_of, goes_on, is_full, is_live, is_ready, is_ready_state, is_running_state, is_stuck, is_thread, is_waiting_state, new_thread, numbers, running_on, start_threads, state_if, state_of, thread_of, times, waits, with_child, with_clear, with_rows, with_state, with_waiter, without}
pub use Rattle.mach_types.specs.Registers.{no_registers, register, with_register}
pub use Rattle.mach_types.specs.declared.address_space.TheConstants.{FIRST_MAPPING_PAGE, FIRST_STACK_PAGE, MAPPING_START, PAGE_SIZE, USER_END}
pub use Rattle.mach_types.specs.declared.barriers.Registered.{Registered}
pub use Rattle.mach_types.specs.declared.errors.Errno.{Errno}
pub use Rattle.mach_types.specs.declared.errors.TheConstants.{EFAULT, EINTR, EINVAL, EPERM}
pub use Rattle.mach_types.specs.declared.events.{Choice.Choice, Entry.Entry, Hart.Hart, Kind.Kind, Maker.Maker, Movement.Movement, Sight.Sight, Tid.Tid, Why.Why}
pub use Rattle.mach_types.specs.declared.events.Why.TheVariants.{FullBuffer, Idle, NoHart, NoRequest, NoSignal, NotAllowed, NotInBarrier, NotReady, Others, Targets}
pub use Rattle.mach_types.specs.declared.kernel_words.TheConstants.{CONSOLE_ROOM}
pub use Rattle.mach_types.specs.declared.limits.End.{End}
pub use Rattle.mach_types.specs.declared.limits.End.TheVariants.{Killed}
pub use Rattle.mach_types.specs.declared.registers.Regs.{Regs}
pub use Rattle.mach_types.specs.declared.sequences.{Area.Area, BadWhy.BadWhy, Descriptor.Descriptor, Named.Named, Outcome.Outcome, Seq.Seq}
pub use Rattle.mach_types.specs.declared.sequences.TheConstants.{CPU_ID, MM_CID, NODE_ID, RSEQ_CS}
pub use Rattle.mach_types.specs.declared.signal_words.{Action.Action, Fault.Fault, ThreadSignals.ThreadSignals}
pub use Rattle.mach_types.specs.declared.signals.TheConstants.{SIGSEGV, SIG_DFL}
pub use Rattle.mach_types.specs.declared.threads.{Saved.Saved, ThreadState.ThreadState}
pub use Rattle.mach_types.specs.declared.threads.ThreadState.TheVariants.{Ready, Running, Waiting}
pub use Rattle.mach_types.specs.declared.user_memory.{Store.Store, Write.Write}
pub use Rattle.mach_types.specs.declared.user_memory.Write.TheVariants.{Stored, Zeroed}
pub use Rattle.rv_inst.specs.Accesses.{Bytes, bytes, read_by}
pub use Rattle.rv_inst.specs.Class.{is_call}
pub use Rattle.rv_inst.specs.Execution.{fault_in, instruction_gate, is_reserved, outcome, unless_allowed}
pub use Rattle.rv_inst.specs.Words.{sum_64}
pub use Rattle.rv_inst.specs.declared.effects.Effect.{Effect}
pub use Rattle.rv_inst.specs.declared.instruction.Inst.{Inst}
pub use Rattle.std.proofs.Common.{Any, Bool, Err, Less, None, Ok, Option, Result, Some, [], add-one, add-suc, add-zero, ap, append_assoc, arith, cond, drop, eq-eqb, eqb, false, filter, find, get_or, if◌then◌else◌, inl, inr, is_none, is_some, leb, length, length-append, length-drop, length-set, ltb, map, max, min, nat_le, nat_lt, not, pos, refl, replicate, set, slice_index, subst, suc, sym, take, true, unwrap_or, w64, zero, ℕ, ℤ, ◌%◌, ◌&&◌, ◌*◌, ◌++◌, ◌+◌, ◌-◌, ◌/◌, ◌<◌, ◌==◌, ◌^◌, ◌||◌, ◌↔◌, ◌∙◌, ◌∷◌, ◌≡◌, ◌≢◌, ◌≤◌, ◌⊎◌}
pub use Rattle.std.proofs.Math.Nat.{mod-lt}
pub use Rattle.std.proofs.lemmas.Bool.{and_from, and_parts, and_right, cases_eq, cases_lt, cond-false, cond-true, cond_both, eqb-false, eqb-true, false≢true, le-leb, le-ltb, leb-false, leb-true, lt-leb, lt-ltb, ltb-false, ltb-true, ne_eqb, not-false, not-true, or_cases, or_parts, or_right}
pub use Rattle.std.proofs.lemmas.Bool.Decides.{Decides-eqb, eqb_tells, nat_tests}
pub use Rattle.std.proofs.lemmas.List.{append-nil, length-map, length-take, map_push}
pub use Rattle.std.proofs.lemmas.List.Elements.{All-from_recursion, All-head, All-tail}
pub use Rattle.std.proofs.lemmas.List.Sums.{fold-append}
pub use Rattle.std.proofs.lemmas.Map.Keys.{sorted_from_strictly_increasing}
pub use Rattle.std.specs.List.{All, AllByRecursion, fold, list_any}
pub use Rattle.std.specs.Option.{IsSome, option_and_then, option_map, option_map_or, option_or}
pub use Rattle.std.specs.Prelude.{List}
unfoldable pub use Rattle.block_model.specs.Choosing.{IsChosen, choice_at, has_ended, next_entry}
unfoldable pub use Rattle.block_model.specs.Deciding.{decide, done, end_of, history}
unfoldable pub use Rattle.block_model.specs.Plain.{plain_after, plain_solo}
unfoldable pub use Rattle.block_model.specs.Replay.{played, played_read}
unfoldable pub use Rattle.chooser.specs.Cases.{pick}
unfoldable pub use Rattle.mach_types.specs.Kernel.Areas.{are_readable, number_at}
unfoldable pub use Rattle.mach_types.specs.Kernel.Pages.{count_pages, lowest_hole}
unfoldable pub use Rattle.mach_types.specs.Kernel.SignalFrames.{can_write_frame, frame_read}
unfoldable pub use Rattle.mach_types.specs.Kernel.Signals.{all_signals}
unfoldable pub use Rattle.rv_inst.specs.Local.{is_register_only}
unfoldable pub use Rattle.rv_inst.specs.Meaning.{meaning}
unfoldable pub use Rattle.rv_inst.specs.Table.{row_of, rows}
