pub mod Explorations
pub mod LocalSteps
pub mod Resting
pub mod Runs
