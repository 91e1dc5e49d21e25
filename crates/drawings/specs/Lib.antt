pub mod Allowed
pub mod Drawings
pub mod Scenes
pub mod Starts
