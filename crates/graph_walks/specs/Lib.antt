pub mod Circles
pub mod Walks
