-- The words that several proofs of this crate speak of, in one place for their imports.
pub use Rattle.block_model.specs.Calls.{called}
pub use Rattle.block_model.specs.Calls.Answers.{CallDone, argument, call_number, int_argument, killed_in_call, returned, said}
pub use Rattle.block_model.specs.Calls.Futexes.{answered_wait, wake}
pub use Rattle.block_model.specs.Calls.Signals.{broken_wait}
pub use Rattle.block_model.specs.Deciding.{thread_in}
pub use Rattle.block_model.specs.Events.{done_of, refusal_of}
pub use Rattle.block_model.specs.Events.Drain.{done_drain_of}
pub use Rattle.block_model.specs.Events.Exec.{by_call, by_effect, by_outcome, done_exec_by, next_effect, next_fault, one_instruction, outcome_of, refusal_exec_by}
pub use Rattle.block_model.specs.Events.Finish.{done_done_by, refusal_done_by}
pub use Rattle.block_model.specs.Events.Preempt.{unless_in_barrier, unless_waiting}
pub use Rattle.block_model.specs.Events.Run.{done_killed, done_run, done_running, lives_on}
pub use Rattle.block_model.specs.Events.Signal.{done_signal_by, refusal_delivery}
pub use Rattle.block_model.specs.Events.Take.{done_take_by, took_and_interrupted}
pub use Rattle.block_model.specs.Here.{Barrier, Done, Here, is_storable, is_writable, memory, memory_in, reached, runs, waiting_here}
pub use Rattle.block_model.specs.History.{file_among}
pub use Rattle.block_model.specs.Instruction.{fault_by, fetched}
pub use Rattle.block_model.specs.Kernel.{woken}
pub use Rattle.block_model.specs.Plain.{Plain, apply, here_in_plain, here_of, plain_over, plain_start}
pub use Rattle.block_model.specs.Record.{Kernel}
pub use Rattle.block_model.specs.Requests.{awaits_after, awaits_of_own, without_hart}
pub use Rattle.block_model.specs.Sequences.{area_here, files_interrupted, interruption_here, is_inside_here}
pub use Rattle.block_model.specs.Setting.{Setting}
pub use Rattle.block_model.specs.Standing.{IsGoodHere}
pub use Rattle.block_model.specs.Tables.{on}
pub use Rattle.mach_types.proofs.Laws.{eqb_same}
pub use Rattle.mach_types.specs.Events.{choice_of, is_preempt}
pub use Rattle.mach_types.specs.Kernel.Areas.{area_of, can_read_area, can_read_descriptor, descriptor_at, has_flags, interruption, is_inside, is_out_of_range, is_signed, named, pointer_of, sequence_of}
pub use Rattle.mach_types.specs.Kernel.Signals.{action_of, is_handler, next_for}
pub use Rattle.mach_types.specs.Kernel.Threads.{is_ready, is_waiting_state, running_on, state_of, waits, with_state}
pub use Rattle.mach_types.specs.declared.address_space.TheConstants.{USER_END}
pub use Rattle.mach_types.specs.declared.events.{Choice.Choice, Entry.Entry, Hart.Hart, Kind.Kind, Tid.Tid}
pub use Rattle.mach_types.specs.declared.events.Why.TheVariants.{NoRequest, NotInBarrier}
pub use Rattle.mach_types.specs.declared.sequences.{Area.Area}
pub use Rattle.mach_types.specs.declared.threads.{Saved.Saved, ThreadState.ThreadState}
pub use Rattle.mach_types.specs.declared.user_memory.{Store.Store}
pub use Rattle.rv_inst.specs.Class.{is_call}
pub use Rattle.rv_inst.specs.declared.effects.Effect.{Effect}
pub use Rattle.std.proofs.Common.{◌-◌, Bool, None, Option, Some, [], ap, append_assoc, arith, cond, drop, eqb, false, inl, inr, leb, length, map, not, refl, subst, suc, sym, true, zero, ℕ, ◌&&◌, ◌++◌, ◌+◌, ◌||◌, ◌∙◌, ◌∷◌, ◌≡◌, ◌≢◌, ◌≤◌, ◌⊎◌}
pub use Rattle.std.proofs.lemmas.Bool.{eqb-true, false≢true, ne_eqb}
pub use Rattle.std.proofs.lemmas.Bool.Decides.{eqb_tells}
pub use Rattle.std.proofs.lemmas.List.{append-nil}
pub use Rattle.std.specs.Option.{option_map, option_or}
pub use Rattle.std.specs.Prelude.{List}
