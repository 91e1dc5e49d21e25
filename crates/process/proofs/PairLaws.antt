-- For a machine of two processes: what an event that it makes itself leaves of the parts of its process, and what a thread that calls may be
-- answered.
pub use Rattle.process.proofs.Callers.{caller_at}
pub use Rattle.process.proofs.Entries.{oldest}
pub use Rattle.process.proofs.Events.{IsMade, IsQuiet, lost_nothing, quietly, uncounted}
pub use Rattle.process.proofs.ExecEvent.{done_call, done_fault, done_inside, done_plain, no_call, no_fault}
pub use Rattle.process.proofs.HartEvents.{drain_own}
pub use Rattle.process.proofs.Membarriers.{eighth, running_tied}
pub use Rattle.process.proofs.Places.{fit_at, goes_on, hart_is, ran_fits, was_not_stuck}
pub use Rattle.process.proofs.OtherProcess.{get_mapped}
pub use Rattle.process.proofs.PlainInstructions.{IsPerforming, performing_over}
pub use Rattle.process.proofs.ReservationLosses.{lost_app}
