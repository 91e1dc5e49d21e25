pub mod Coming
pub mod Frames
pub mod Holding
pub mod Writing
