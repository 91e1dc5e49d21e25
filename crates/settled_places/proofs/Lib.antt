mod Closed
pub mod Events
mod FreeRuns
pub mod Leads
mod OwedSignals
mod RunEnds
mod Runs
mod SameSteps
pub mod Settled
