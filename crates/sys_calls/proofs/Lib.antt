pub mod ActionWords
pub mod AdviceCalls
mod AreaRegistration
pub mod AreaWords
pub mod Barriers
pub mod ByteRanges
pub mod CallAnswers
pub mod CallLaws
pub mod CallNumbers
pub mod CallerTables
pub mod Children
mod Common
pub mod ConsoleWrites
pub mod FutexWakes
pub mod GuestMemory
pub mod KernelWrites
pub mod Laws
pub mod LimitWords
pub mod PageCalls
pub mod RandomWrites
pub mod SignalPosting
pub mod Spans
pub mod TablesAfterCalls
pub mod ThreadSignals
pub mod WokenAnswers
