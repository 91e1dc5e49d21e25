-- Calls: what each does that is fit.
pub mod Cloning
pub mod Conditions
pub mod EachCall
pub mod Futexes
pub mod RecordSteps
