pub mod FaultLines
pub mod Reasons
pub mod Statuses
