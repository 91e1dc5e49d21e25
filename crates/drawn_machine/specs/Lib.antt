pub mod OnTheWay
pub mod Overtaken
pub mod PcSets
pub mod Preemptions
pub mod Scenes
pub mod Waits
