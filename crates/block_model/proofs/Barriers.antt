-- Barriers (membarrier(2)): what begins one, what is asked of harts, waiting in one, and its return.
pub mod Events
pub mod OutsideSequences
pub mod Requests
pub mod Return
pub mod Targets
pub mod Waiting
