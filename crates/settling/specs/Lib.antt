pub mod Edges
pub mod Glances
pub mod Handlers
pub mod LocalFiles
pub mod Looks
pub mod Settles
