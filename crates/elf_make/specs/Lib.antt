pub mod Parts
pub mod Layout
pub mod Refusals
