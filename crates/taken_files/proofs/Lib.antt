pub mod Causes
mod ElfPlaces
mod Programs
pub mod ScriptRuns
