mod Emitting
mod Examples
mod Fetching
mod Places
pub mod Gains
pub mod Rises
