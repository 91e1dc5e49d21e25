-- The words of the outside: counts of faults, and what shelves and sinks tell.
pub mod Calls
pub mod Counts
pub mod FileShelf
pub mod Files
pub mod MemShelf
pub mod MemSink
pub mod OutSink
pub mod Refusals
pub mod SureShelf
pub mod SureSink
pub mod Told
