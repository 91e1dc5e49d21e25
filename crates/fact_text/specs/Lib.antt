pub mod CallNames
pub mod Lines
