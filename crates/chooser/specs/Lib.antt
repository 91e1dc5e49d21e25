pub mod Cases
pub mod Generators
