pub mod Explaining
mod Faults
mod Outcomes
