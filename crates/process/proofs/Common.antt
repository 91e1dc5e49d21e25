-- The words that most proofs of this crate speak of, in one place for their imports.
pub use Rattle.block_model.proofs.Laws.{IsFit, is_held_below, is_held_by, left_idle, ran_runs, ready_listed, run_ready, running_is, stand_fit, stand_free_id, stand_taken, with_hart-or, without_hart-and}
pub use Rattle.block_model.specs.Beside.{Neighbour, is_in_segment, or_in_segment, with_segment}
pub use Rattle.block_model.specs.Calls.{called}
pub use Rattle.block_model.specs.Calls.Answers.{CallDone, call_number, killed_in_call}
pub use Rattle.block_model.specs.Calls.Barriers.{running_harts}
pub use Rattle.block_model.specs.Calls.Memory.{lies_on, lies_waiting_on, taken_by}
pub use Rattle.block_model.specs.Deciding.{entry_in, final, number_of, pc_in, thread_in}
pub use Rattle.block_model.specs.Events.{done_of, refusal_of}
pub use Rattle.block_model.specs.Events.Drain.{done_drain_of, refusal_drain_of}
pub use Rattle.block_model.specs.Events.Exec.{by_call, by_fault, by_outcome, has_handler, is_held, next_effect, next_fault, one_instruction, others_gate, outcome_of, refusal_exec, refusal_exec_by}
pub use Rattle.block_model.specs.Events.Finish.{done_done_by, refusal_done_by, refusal_return}
pub use Rattle.block_model.specs.Events.Preempt.{done_preempt_by, refusal_preempt_by, unless_in_barrier, unless_waiting}
pub use Rattle.block_model.specs.Events.Run.{done_killed, done_run, done_run_by, done_running, lives_on}
pub use Rattle.block_model.specs.Events.Signal.{done_delivery, done_next, done_signal_by, dropped_if_ignored, file_interrupted, handled_unless_killed, kills, kills_unhandled, refusal_delivery, refusal_signal_by, signals_handled, signals_taken}
pub use Rattle.block_model.specs.Events.Take.{done_take, done_take_by, killed_by, only_took, took_and_interrupted}
pub use Rattle.block_model.specs.Here.{Barrier, Done, Here, is_storable, is_writable, memory, memory_in, reached, runs, view, view_of_all, waiting_here, writable_in}
pub use Rattle.block_model.specs.History.{file_among, lost_after, lost_to}
pub use Rattle.block_model.specs.Ids.{held_ids, id_of, is_id_of, is_running, next_id, with_id, without_id}
pub use Rattle.block_model.specs.Instruction.{effect_of, fault_by, fetched, instruction_of}
pub use Rattle.block_model.specs.Kernel.{first_kernel, left, ran, signalled}
pub use Rattle.block_model.specs.Plain.{Plain, apply, here_in_plain, plain_start}
pub use Rattle.block_model.specs.Requests.{awaits_after, awaits_of_own, is_about, requests_after, restart_after, restarts_at, with_hart, without_hart}
pub use Rattle.block_model.specs.Sequences.{area_here, can_write_words, files_interrupted, interruption_here, is_inside_here, named_here, words_to}
pub use Rattle.block_model.specs.Setting.{Setting}
pub use Rattle.block_model.specs.Sights.{thread}
pub use Rattle.block_model.specs.Stands.{Stand, aside, here_at}
pub use Rattle.block_model.specs.Tables.{AreOfLive, AreSignalsOfLive, IsTables}
pub use Rattle.elf_load.specs.Start.{code_byte, code_word, image_byte, image_run, page_byte, page_of, program_of, return_run, stack_run, start_byte, start_file, start_runs}
pub use Rattle.elf_load.specs.declared.image.ImagePage.{ImagePage}
pub use Rattle.hart_state.specs.State.{entered, exec_refusal, hart_after, idle_hart, outcome_on, stores}
pub use Rattle.hart_state.specs.declared.hart.HartState.{HartState}
pub use Rattle.kernel_threads.proofs.Laws.{emptied, is_kept, ready_saves_something, running_saves_nothing, saved_of_others}
pub use Rattle.kernel_threads.specs.Table.{IsTable, Table, saved_of, start_table, with_saved}
pub use Rattle.mach_types.specs.Bytes.{after_write, after_writes, all_stored, covers, each_byte, joined, written}
pub use Rattle.mach_types.specs.Kernel.Areas.{Words, area_of, interruption, is_inside, is_inside_named, lowest_cid, named, pc_after, words_entered, words_on, words_written, writes_of}
pub use Rattle.mach_types.specs.Kernel.Barriers.{harts_that, none_registered}
pub use Rattle.mach_types.specs.Kernel.Pages.{PageRun, Pages, can_execute, can_read, can_write, is_in, lets, permission_at, permission_of}
pub use Rattle.mach_types.specs.Kernel.Scheduling.{Scheduling, has_hart, is_of, without_ready}
pub use Rattle.mach_types.specs.Kernel.SignalFrames.{after_frame, frame_at, frame_words, frame_writes, handler_file, stack_pointer, words_stored}
pub use Rattle.mach_types.specs.Kernel.Signals.{Signalling, action_of, has_signal, is_handler, is_ignored, is_ignored_by_default, mask_of, next_for, start_signalling, with_pending}
pub use Rattle.mach_types.specs.Kernel.Threads.{Thread, Threads, goes_on, is_live, is_ready, is_ready_state, is_running_state, is_stuck, is_thread, is_waiting_state, numbers, running_on, state_if, state_of, times, with_state}
pub use Rattle.mach_types.specs.Registers.{no_registers}
pub use Rattle.mach_types.specs.declared.events.Choice.{Choice}
pub use Rattle.mach_types.specs.declared.events.Entry.{Entry}
pub use Rattle.mach_types.specs.declared.events.Hart.{Hart}
pub use Rattle.mach_types.specs.declared.events.Kind.{Kind}
pub use Rattle.mach_types.specs.declared.events.Tid.{Tid}
pub use Rattle.mach_types.specs.declared.events.Why.{Why}
pub use Rattle.mach_types.specs.declared.events.Why.TheVariants.{FullBuffer, Idle, InBarrier, NoRequest, NoSignal, Others, Waiting}
pub use Rattle.mach_types.specs.declared.limits.End.{End}
pub use Rattle.mach_types.specs.declared.limits.End.TheVariants.{Killed}
pub use Rattle.mach_types.specs.declared.sequences.Area.{Area}
pub use Rattle.mach_types.specs.declared.sequences.BadWhy.{BadWhy}
pub use Rattle.mach_types.specs.declared.sequences.Outcome.{Outcome}
pub use Rattle.mach_types.specs.declared.signal_words.Action.{Action}
pub use Rattle.mach_types.specs.declared.signals.TheConstants.{SIGBUS, SIGSEGV}
pub use Rattle.mach_types.specs.declared.threads.Saved.{Saved}
pub use Rattle.mach_types.specs.declared.threads.ThreadState.{ThreadState}
pub use Rattle.mach_types.specs.declared.threads.ThreadState.TheVariants.{Ready, Running}
pub use Rattle.mach_types.specs.declared.user_memory.Store.{Store}
pub use Rattle.mach_types.specs.declared.user_memory.Write.{Write}
pub use Rattle.mach_types.specs.declared.user_memory.Write.TheVariants.{Stored, Zeroed}
pub use Rattle.page_map.proofs.Laws.{alike_holds, each_byte-fails, writable_is_visible, write_alone}
pub use Rattle.page_map.specs.Map.{IsAlike, Map, Page, are_visible, break_in, break_start_in, byte_at, byte_in, bytes_if, can_write_in, free_in, held_in, may_write, page_in, permission_in}
pub use Rattle.process.specs.Barriers.{IsRestarted, asked_by, ended_by, gone_on, is_busy, noticed, noticed_unless, restart_here, taken_or_noticed, taken_with}
pub use Rattle.process.specs.ContextSwitch.{HasHart, IsChanged, IsReadied, IsWaiting, begun_without}
pub use Rattle.process.specs.Delivering.{HasSignals, IsDelivered, IsEntered, IsInterrupted, done_here, ended_unless, gone_on_with, has_handler_in, killer_of, next_on}
pub use Rattle.process.specs.EventOutcomes.{entry_from, hart_after_call, waits_after}
pub use Rattle.process.specs.ExecGates.{AreOfSegment, IsNextAt, lies_in, lies_outside}
pub use Rattle.process.specs.Foresight.{foreseen_writes, interrupts}
pub use Rattle.process.specs.Harts.{counted, credit_of, file_of, file_on, hart_at, hart_in, id_on}
pub use Rattle.process.specs.Pages.{AreDecoded, code_of, is_executable, word_in, word_of_page}
pub use Rattle.process.specs.OtherProcess.{passed_by, taken_aside}
pub use Rattle.process.specs.PlainSteps.{IsPlainStep, stepped}
pub use Rattle.process.specs.Planned.{HasPlan, IsExecuted, IsInside, IsNextStep, IsOwnStep, IsPlanned}
pub use Rattle.process.specs.Refinement.{HasCode, IsAfter, IsAlone, IsCounted, IsPlace, IsReadable, IsTied, IsUncounted, MayDrain, answered}
pub use Rattle.process.specs.Reservations.{lost_by_all, lost_by_write, lost_unless}
pub use Rattle.process.specs.Sequences.{area_on, holds}
pub use Rattle.process.specs.Stored.{IsWritten}
pub use Rattle.process.specs.declared.next.Next.{Next}
pub use Rattle.process.specs.declared.parts.Parts.{Parts}
pub use Rattle.rv_inst.specs.Class.{atomic_write, conditional_write, is_call, plain_read, plain_write, reserving_read, sets_register}
pub use Rattle.rv_inst.specs.Execution.{access_fault, fault_in, has_reserved, instruction_gate, is_allowed, lost_by, outcome, seen_byte, unless_allowed}
pub use Rattle.rv_inst.specs.Sizes.{HasAccessSizes}
pub use Rattle.rv_inst.specs.declared.effects.Effect.{Effect}
pub use Rattle.rv_inst.specs.declared.instruction.Inst.{Inst}
pub use Rattle.std.proofs.Common.{All, AllPairs, Bool, Err, Fits, IfSome, IsOk, IsTrue, List, None, Ok, OnOk, Option, Result, Some, [], add-zero, ap, append-nil, arith, cond, drop, eq-eqb, eqb, false, filter, find, get_or, if◌then◌else◌, inl, inr, is_le, is_lt, is_some, length, length-append, ltb, map, max, min, nat_cmp, nat_eq, nat_le, nat_lt, not, position, refl, rules, set, slice_get, slice_index, subst, suc, sym, take, true, w8, zero, ℕ, ◌%◌, ◌&&◌, ◌*◌, ◌++◌, ◌+◌, ◌-◌, ◌/◌, ◌<◌, ◌^◌, ◌||◌, ◌↔◌, ◌∙◌, ◌∷◌, ◌≡◌, ◌≢◌, ◌≤◌, ◌⊎◌}
pub use Rattle.std.proofs.Math.Path.{fun_ext}
pub use Rattle.std.proofs.Math.Seq.{take-length}
pub use Rattle.std.proofs.lemmas.Bool.{OnTrue_at, and_from, and_parts, and_right, cases_eq, cases_lt, cond_both, eqb-true, false≢true, le-ltb, lt-ltb, ltb-false, ne_eqb, not-false, not-true, not_from_false, or_right}
pub use Rattle.std.proofs.lemmas.Bool.Decides.{nat_tests}
pub use Rattle.std.proofs.lemmas.Grind.{common_steps}
pub use Rattle.std.proofs.lemmas.List.{drop_all, get_or-map, get_or-set_other, get_or-set_same, get_or_append_left, get_or_push, length-map, length-set, length_push, take_all, take_more, with_items_is}
pub use Rattle.std.proofs.lemmas.List.Edits.{map_over_more}
pub use Rattle.std.proofs.lemmas.List.Folds.{Any-from_list_any, list_any-from_Any, list_any_more}
pub use Rattle.std.proofs.lemmas.List.Kept.{AllPairs-filter, AllPairs-from_increasing}
pub use Rattle.std.proofs.lemmas.Option.{get_or_from_slice_get, none-some, same_Some, slice_get-get_or, slice_get_past, slice_get_read, slice_get_within}
pub use Rattle.std.specs.List.{AllByRecursion, Any, list_any, position_or_len}
pub use Rattle.std.specs.List.Sorted.{IsBinarySearchResult, IsStrictlyIncreasing}
pub use Rattle.std.specs.Option.{IsSome, option_and_then, option_map, option_map_or, option_or}
pub use Rattle.std.specs.Vec.{vec_len}
pub use Rattle.sys_calls.proofs.CallerTables.{live_in}
pub use Rattle.sys_calls.proofs.Laws.{holds_left, holds_past_ids, holds_scheduling, holds_signals, holds_threads}
pub use Rattle.sys_calls.specs.Made.{AreSaved, HoldsPages, IsAt, IsOwnCall, barrier_of, gives_up, process_end}
pub use Rattle.sys_calls.specs.Registered.{areas_by_number}
pub use Rattle.sys_calls.specs.Tables.{HoldsTables}
pub use Rattle.sys_calls.specs.declared.kernel.Kernel.{Kernel}
unfoldable pub use Rattle.mach_types.specs.Kernel.SignalFrames.{can_write_frame}
