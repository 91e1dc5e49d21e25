-- The words that most proofs of this crate speak of, in one place for their imports.
pub use Rattle.block_model.proofs.Laws.{AllWritable, IsFit, IsStanding, call_writes, ends_by_process, event_writes, none_passes, stand_next}
pub use Rattle.block_model.specs.Beside.{Neighbour, SEGMENT_AT, SEGMENT_SIZE, is_in_segment, or_in_segment}
pub use Rattle.block_model.specs.Calls.{call_of, called}
pub use Rattle.block_model.specs.Calls.Answers.{CallDone, argument, call_number, int_argument, killed_in_call, refused}
pub use Rattle.block_model.specs.Calls.Barriers.{answers, running_harts}
pub use Rattle.block_model.specs.Deciding.{final, number_of, thread_in}
pub use Rattle.block_model.specs.Events.{done_of, refusal_of}
pub use Rattle.block_model.specs.Events.Drain.{done_drain_of}
pub use Rattle.block_model.specs.Events.Exec.{by_call, by_effect, by_fault, by_outcome, called_here, done_exec_by, has_handler, next_effect, next_fault, outcome_of, refusal_exec_by}
pub use Rattle.block_model.specs.Events.Finish.{done_done_by, refusal_done_by}
pub use Rattle.block_model.specs.Events.Preempt.{done_preempt_by}
pub use Rattle.block_model.specs.Events.Run.{done_run_by, lives_on}
pub use Rattle.block_model.specs.Events.Signal.{done_next, done_signal_by, handled_unless_killed, kills}
pub use Rattle.block_model.specs.Events.Take.{done_take_by, only_took}
pub use Rattle.block_model.specs.Here.{Barrier, Done, Here, is_storable, is_writable, memory, nothing, reached, runs, view_of_all, waiting_here}
pub use Rattle.block_model.specs.History.{file_among, lost_after}
pub use Rattle.block_model.specs.Instruction.{fault_by, fetched}
pub use Rattle.block_model.specs.Plain.{Plain, apply, here_in_plain, plain_over, plain_start}
pub use Rattle.block_model.specs.Record.{Kernel}
pub use Rattle.block_model.specs.Sequences.{interruption_here, is_inside_here}
pub use Rattle.block_model.specs.Setting.{Setting}
pub use Rattle.block_model.specs.Sights.{thread}
pub use Rattle.block_model.specs.Stands.{Stand, aside, here_at}
pub use Rattle.byte_views.specs.Words.{with_word}
pub use Rattle.elf_load.specs.Start.{Program}
pub use Rattle.hart_state.specs.State.{stores}
pub use Rattle.hart_state.specs.declared.hart.HartState.{HartState}
pub use Rattle.mach_types.specs.Bytes.{IsAccessSize, after_write, all_stored, byte_over, each_byte, joined, word_at, written}
pub use Rattle.mach_types.specs.Events.{choice_of, choice_with, kind_of}
pub use Rattle.mach_types.specs.Kernel.Barriers.{asked, refusal, targets}
pub use Rattle.mach_types.specs.Kernel.Pages.{Pages, can_write, permission_at, permission_of}
pub use Rattle.mach_types.specs.Kernel.PairBarriers.{concerned}
pub use Rattle.mach_types.specs.Kernel.Scheduling.{has_hart}
pub use Rattle.mach_types.specs.Kernel.Signals.{next_for}
pub use Rattle.mach_types.specs.Kernel.Threads.{Thread, Threads, is_on, is_stuck, running_on}
pub use Rattle.mach_types.specs.Limits.{InRange}
pub use Rattle.mach_types.specs.declared.barriers.{Answer.Answer, Answer.TheVariants.Begin, Answer.TheVariants.Value}
pub use Rattle.mach_types.specs.declared.barriers.{BarrierCommand.BarrierCommand, Registered.Registered}
pub use Rattle.mach_types.specs.declared.errors.TheConstants.{ENOSYS}
pub use Rattle.mach_types.specs.declared.events.{Choice.Choice, Choice.TheVariants.Exec, Entry.Entry, Hart.Hart, Kind.Kind, Tid.Tid, Why.Why}
pub use Rattle.mach_types.specs.declared.events.Why.TheVariants.{Idle, NotReady, Targets}
pub use Rattle.mach_types.specs.declared.limits.{End.End, Limits.Limits}
pub use Rattle.mach_types.specs.declared.registers.Regs.{Regs}
pub use Rattle.mach_types.specs.declared.threads.{Saved.Saved, ThreadState.ThreadState}
pub use Rattle.mach_types.specs.declared.user_memory.{Store.Store, Write.Write, Write.TheVariants.Stored}
pub use Rattle.page_map.proofs.Laws.{each_byte-fails, over-high, over-low}
pub use Rattle.page_map.specs.Map.{Map, byte_in, can_write_in, held_in, may_write, permission_in}
pub use Rattle.page_map.specs.Mapping.{IsGap}
pub use Rattle.process.proofs.Laws.{hart_tied, in_list, plain_next, writable_held}
pub use Rattle.process.proofs.PairLaws.{eighth, fit_at, hart_is, lost_app, quietly, was_not_stuck}
pub use Rattle.process.specs.Harts.{counted, credit_of, file_on, hart_at}
pub use Rattle.process.specs.Planned.{IsPlanned}
pub use Rattle.process.specs.Refinement.{IsCounted, IsPlace, IsTied, IsUncounted}
pub use Rattle.process.specs.Reservations.{lost_unless}
pub use Rattle.process.specs.declared.next.Next.{Next}
pub use Rattle.process.specs.declared.parts.Parts.{Parts}
pub use Rattle.rv_inst.specs.Class.{is_call}
pub use Rattle.rv_inst.specs.Execution.{Outcome, fault_in, is_reserved, outcome, reserved_at}
pub use Rattle.rv_inst.specs.Words.{signed_32}
pub use Rattle.rv_inst.specs.declared.effects.Effect.{Effect}
pub use Rattle.shared_procs.specs.Entering.{AreEntering, AreStorable, HaveEntered, HaveLost, HoldsShared, MayEmpty}
pub use Rattle.shared_procs.specs.Halves.{program_in}
pub use Rattle.shared_procs.specs.OwnEntries.{AreOfImages, IsSameProcess, Learnt, OwnEntry, belongs, belongs_by, learnt_by, learnt_exec, learnt_of, own_entries, own_entry, read_in_segment, reads, succeeds}
pub use Rattle.shared_procs.specs.PairMachines.{AreTied, IsPair, seen, setting_of}
pub use Rattle.shared_procs.specs.PairPlaces.{AreBoth, AreEmptied, AreMade, AreUnshared, HasNext, HasStep, IsActing, IsAsked, IsOutsideCall, IsPerformedAt, IsStep, IsSteppedAt, MayAct, call_next, emptied, is_take}
pub use Rattle.shared_procs.specs.PairRuns.{IsPairRun, IsPairRunHistory, PairEvent, PairHistory, PairSeen, entry_as, entry_two, event_two, has_ended, pair_after, pair_decide, pair_seen, state_of_end, unless_two}
unfoldable pub use Rattle.shared_procs.specs.PairRuns.{pair_history}
pub use Rattle.shared_procs.specs.Pairs.{Pair, PairSetting, SECOND_THREADS, acting, apply_two, closing, done_as, done_two, ended_if, goes_on, half, here_two, is_of_second, is_over, is_shared, neighbour, number_in_log, on_hart, own_choice, own_number, pair_start, refusal_as, refusal_begins, refusal_two, runs_in, setting, stand, waiting_below}
pub use Rattle.shared_procs.specs.ReturningBarriers.{IsBusy, PairBegun, begun_by, begun_or, is_by, is_of_process, returning}
pub use Rattle.shared_procs.specs.Segments.{lies_within, reached_in, shared_in, storable_in}
pub use Rattle.shared_procs.specs.StoresEntered.{entered, executed}
pub use Rattle.shared_procs.specs.declared.half.Half.{Half}
pub use Rattle.shared_procs.specs.declared.outcomes.PairRefused.{PairRefused}
pub use Rattle.shared_procs.specs.declared.outcomes.PairRefused.TheVariants.{Ended, Full, NotEnabled}
pub use Rattle.shared_procs.specs.declared.pair.Pair.TheInside.{Inside}
pub use Rattle.std.proofs.Common.{Bool, Err, IfOk, IfSome, List, None, Ok, OnErr, Option, Result, Some, [], ap, append-nil, append_assoc, arith, cond, drop, eq-eqb, eqb, false, find, fold, get_or, inl, inr, is_none, is_some, leb, leb-true, length, length-append, length-drop, ltb, map, nat_le, not, of_z, refl, replicate, rules, set, slice_get, slice_index, subst, suc, sym, to_z, true, unwrap_or, vec_capacity, vec_len, w32, zero, ℕ, ℤ, ◌%◌, ◌&&◌, ◌++◌, ◌+◌, ◌-◌, ◌/◌, ◌<◌, ◌==◌, ◌^◌, ◌||◌, ◌∙◌, ◌∷◌, ◌≡◌, ◌≢◌, ◌≤◌, ◌⊎◌}
pub use Rattle.std.proofs.Math.Path.{fun_ext}
pub use Rattle.std.proofs.lemmas.Bool.{and_parts, cases_eq, cases_lt, cond_both, eqb-true, false≢true, le-leb, le-ltb, leb-false, lt-leb, lt-ltb}
pub use Rattle.std.proofs.lemmas.Bool.Decides.{nat_tests}
pub use Rattle.std.proofs.lemmas.List.Sums.{fold-append}
pub use Rattle.std.specs.List.{AllByRecursion, filter}
pub use Rattle.std.specs.Option.{option_map, option_map_or, option_or}
pub use Rattle.sys_calls.specs.Made.{HoldsPages}
