-- What crates above cite: what a machine has made of a log and where an entry of it is refused; and what is seen of an entry that is made
-- again.
pub use Rattle.block_view.proofs.Entering.{HasMadeLog, first_refused, logged_few, logged_more, logged_none, run_of_setting}
pub use Rattle.block_view.proofs.SeenInside.{begins_as, more_as, seen_inside}
pub use Rattle.block_view.proofs.Seeing.{history_after, no_such_hart, run_after}
