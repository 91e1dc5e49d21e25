-- The words that most proofs of this crate speak of, in one place for their imports.
pub use Rattle.block_model.proofs.Laws.{HasStayed, Steps, after_end, all_chosen_next, allowed_at, at_kind, at_limit, at_no_hart, choice_decides, chosen_more, decided_is, end_of-ended, end_of-limit, end_of-open, events_few, good_at, is_lent, length-history, live_signals, luck_of_other, luck_of_own, next_event, next_is_none, plain_made, ran_few, run_on, same_here, same_state, standing, start_plain, start_run, stays, steps_of, worked_keeps}
pub use Rattle.block_model.specs.Choosing.{Luck, all_chosen, is_choice, luck, made_or_none, pick_at, sight_with}
pub use Rattle.block_model.specs.Deciding.{decide, entry_in, over_at, unless}
pub use Rattle.block_model.specs.Events.{done_of, refusal_of}
pub use Rattle.block_model.specs.Events.Exec.{is_held, next_effect as effect_at, next_fault as fault_at, others_gate, refusal_exec, refusal_exec_by}
pub use Rattle.block_model.specs.Events.Preempt.{unless_in_barrier}
pub use Rattle.block_model.specs.Here.{Here, is_storable, is_writable, memory, reached, runs, view, waiting_here}
pub use Rattle.block_model.specs.History.{History, awaits, console, events, file, here_in_history, kernel, ran, running}
pub use Rattle.block_model.specs.Instruction.{fault_by, fetched, instruction_of, next_effect, next_fault, next_instruction}
pub use Rattle.block_model.specs.Plain.{Plain, apply, here_of, plain_after, plain_over, plain_seen, plain_start}
pub use Rattle.block_model.specs.Run.{IsBlockRun}
pub use Rattle.block_model.specs.Setting.{Seen, Setting, setting_of as setting_by}
pub use Rattle.block_model.specs.Sights.{effect_here, effect_on, fault_here, fault_on, is_all_taken, is_deliverable_on, is_local_on, sight_in, thread}
pub use Rattle.block_model.specs.Stands.{here_at, stand_of}
pub use Rattle.block_model.specs.Stretches.{IsStretchOf, Stretch, advanced, appended, file_after, goes_on, gone_on, longest, stepped, worked}
pub use Rattle.chooser.proofs.Laws.{after_pick-other, after_pick-own, after_pick-settled}
pub use Rattle.chooser.specs.Cases.{case_of, draws, has_credit, is_open, on_credit, pick_in}
pub use Rattle.chooser.specs.Generators.{Generator, after_pick, after_words, first_generator, first_generators, generator_in, next_generator, word}
pub use Rattle.chooser.specs.declared.chooser.Pick.{Pick}
pub use Rattle.elf_load.specs.declared.image.ImagePage.{ImagePage}
pub use Rattle.hart_state.specs.declared.hart.HartState.{HartState}
pub use Rattle.mach_types.specs.Bytes.{word_at, written}
pub use Rattle.mach_types.specs.Events.{choice_of}
pub use Rattle.mach_types.specs.Kernel.Scheduling.{Scheduling, first_for}
pub use Rattle.mach_types.specs.Limits.{InRange}
pub use Rattle.mach_types.specs.declared.events.Advance.TheVariants.{Ended, Made, NoneNow}
pub use Rattle.mach_types.specs.declared.events.Choice.{Choice}
pub use Rattle.mach_types.specs.declared.events.Entry.{Entry}
pub use Rattle.mach_types.specs.declared.events.Hart.{Hart}
pub use Rattle.mach_types.specs.declared.events.Sight.{Sight}
pub use Rattle.mach_types.specs.declared.events.Tid.{Tid}
pub use Rattle.mach_types.specs.declared.events.Why.{Why}
pub use Rattle.mach_types.specs.declared.threads.Saved.{Saved}
pub use Rattle.machine_core.specs.Credits.{credited, followed, generators_after, is_followed, is_picked, seen_if, uncredited, with_credit}
pub use Rattle.machine_core.specs.Machines.{IsMachine, generator_at, past_of, seen, setting_of}
pub use Rattle.machine_core.specs.Stretches.{executed, gone_on_credit, stretch_from, stretch_of, stretch_on, taken_in}
pub use Rattle.machine_core.specs.declared.machine.Machine.TheInside.{Inside}
pub use Rattle.page_map.specs.Map.{byte_in, can_write_in}
pub use Rattle.process.proofs.Laws.{bytes_held, code_enough, entry_exec, free_event, gate_of_free, get_set_other, get_set_same, has_signals, held_as_live, idle_credit, in_list, mapped_is, next_at, no_fault_of_free, others_of_free, same_length, thread_is, writable_held}
pub use Rattle.process.specs.Harts.{credit_of, file_of, file_on, hart_at, hart_in, id_on}
pub use Rattle.process.specs.Planned.{IsPlanned}
pub use Rattle.process.specs.Refinement.{HasCode, IsAfter, IsAlone, IsPlace, IsTied, MayMake, answer_to, answered}
pub use Rattle.process.specs.declared.parts.Parts.{Parts}
pub use Rattle.rv_inst.specs.Class.{sets_register}
pub use Rattle.rv_inst.specs.Execution.{instruction_gate, seen_byte}
pub use Rattle.rv_inst.specs.declared.effects.Effect.{Effect}
pub use Rattle.std.proofs.Common.{All, Bool, Err, IsSome, List, None, Ok, Option, Result, Some, [], add-zero, ap, append-nil, append_assoc, ap₂, arith, cond, drop, eq-eqb, eqb, false, get_or, if◌then◌else◌, inl, inr, is_none, is_some, le-ltb, leb, leb-false, length, ltb, map, min, not, refl, rules, set, slice_get, subst, suc, sym, take, true, zero, ℕ, ◌&&◌, ◌++◌, ◌+◌, ◌-◌, ◌<◌, ◌^◌, ◌||◌, ◌∙◌, ◌∷◌, ◌≡◌, ◌≢◌, ◌≤◌, ◌⊎◌}
pub use Rattle.std.proofs.lemmas.Bool.{and_from, and_parts, and_right, cases_eq, false≢true, lt-leb, lt-ltb, ne_eqb, or_parts}
pub use Rattle.std.proofs.lemmas.Option.{get_or_from_slice_get, same_Some, slice_get-get_or}
pub use Rattle.std.proofs.lemmas.Result.{IfOk-at_ok}
pub use Rattle.std.specs.Option.{option_and_then, option_map, option_map_or, option_or}
pub use Rattle.std.specs.Prelude.{vec_capacity}
pub use Rattle.std.specs.Vec.{with_item}
unfoldable pub use Rattle.block_model.specs.Choosing.{IsChosen, advance_at, choice_at, credit_at, has_ended, next_entry}
unfoldable pub use Rattle.block_model.specs.Deciding.{history}
unfoldable pub use Rattle.chooser.specs.Cases.{pick}
