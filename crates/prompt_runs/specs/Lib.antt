pub mod Owed
pub mod Prompt
