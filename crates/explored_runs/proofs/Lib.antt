mod Batches
pub mod Counts
mod DecileExamples
pub mod DrawnOutcomes
pub mod Examples
mod Fields
pub mod OneExploration
pub mod Outcomes
pub mod Telling
pub mod Told
mod WaitCounts
