pub mod Programs
pub mod Standing
