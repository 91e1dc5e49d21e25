pub mod Ahead
pub mod BlockRuns
pub mod CanEnd
pub mod Closed
mod Common
pub mod Congruence
pub mod Notions
pub mod Passing
pub mod ReadsOne
pub mod Tallies
pub mod WithAreas
pub mod WithoutArea
