pub mod Blocks
pub mod Guests
pub mod LibraryBlocks
pub mod Programs
pub mod Steps
