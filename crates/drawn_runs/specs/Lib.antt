pub mod DrawnRuns
pub mod Manners
pub mod OwnSignals
pub mod WholeRuns
