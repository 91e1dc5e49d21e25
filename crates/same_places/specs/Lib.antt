pub mod Choices
pub mod Closed
pub mod FreeRuns
pub mod Places
pub mod Replayed
pub mod Resting
pub mod Searched
pub mod Trying
