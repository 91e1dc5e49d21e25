mod LongWalks
mod Raised
pub mod Targets
mod Walks
