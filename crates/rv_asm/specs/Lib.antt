pub mod Assembly
pub mod Fields
pub mod Formats
pub mod Held
