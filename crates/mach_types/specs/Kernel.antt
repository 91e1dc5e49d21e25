-- What the kernel knows of a process: one file for each part, with one step for each thing that happens to it.
pub mod Threads
pub mod Futexes
pub mod Scheduling
pub mod Pages
pub mod PageCalls
pub mod Signals
pub mod SignalFrames
pub mod Areas
pub mod Barriers
pub mod PairBarriers
