pub mod Agreement
pub mod DrawnOutcomes
pub mod PrintedEnds
