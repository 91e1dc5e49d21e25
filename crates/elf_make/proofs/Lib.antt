pub mod Indexes
pub mod Placing
pub mod Pushing
pub mod Refused
pub mod Reading
pub mod Standing
pub mod Accepting
mod Examples
