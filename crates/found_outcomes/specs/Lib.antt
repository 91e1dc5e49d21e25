pub mod Complete
pub mod Endless
pub mod Found
pub mod Hopeless
pub mod Reduced
pub mod Search
