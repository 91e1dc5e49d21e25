pub mod Reductions
pub mod Signals
