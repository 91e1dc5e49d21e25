pub mod Asks
pub mod BadLines
pub mod PlayReasons
pub mod PlayedPairs
pub mod Rounds
pub mod Runs
