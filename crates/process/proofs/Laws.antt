-- The laws that crates above cite: of parts at their start, of a place, of what an event leaves of the parts and of the harts, of what the kernel writes by one, of
-- the code of a program, and of an instruction that sets a register and does nothing else.
pub use Rattle.process.proofs.Codes.{code_enough}
pub use Rattle.process.proofs.Entries.{entry_exec}
pub use Rattle.process.proofs.Events.{mapped_is, same_length}
pub use Rattle.process.proofs.FreeInstructions.{gate_of_free, no_fault_of_free, others_of_free}
pub use Rattle.process.proofs.FreeSteps.{free_event}
pub use Rattle.process.proofs.HartEvents.{plain_own}
pub use Rattle.process.proofs.HartStates.{get_set_other, get_set_same, hart_tied}
pub use Rattle.process.proofs.KernelWrites.{foreseen_entered}
pub use Rattle.process.proofs.SavedFiles.{saved_plain}
pub use Rattle.process.proofs.Memory.{bytes_held, writable_held}
pub use Rattle.process.proofs.PlainInstructions.{plain_next}
pub use Rattle.process.proofs.RestartableSequences.{view_is}
pub use Rattle.process.proofs.Places.{in_list, runs_there, thread_is}
pub use Rattle.process.proofs.NextInstruction.{next_at}
pub use Rattle.process.proofs.SignalsOfHarts.{has_signals}
pub use Rattle.sys_calls.proofs.ThreadSignals.{held_as_live}
pub use Rattle.process.proofs.Starts.{idle_credit}
