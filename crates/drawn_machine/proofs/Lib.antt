mod DrawnSteps
mod Inside
mod Overtaking
mod OvertakenExamples
mod PcSets
mod SeenScenes
mod Starting
mod WaitExamples
pub mod Waiting
