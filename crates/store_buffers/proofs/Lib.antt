pub mod Overlays
pub mod PagesTouched
pub mod Powers
pub mod Replaced
pub mod WordsSeen
