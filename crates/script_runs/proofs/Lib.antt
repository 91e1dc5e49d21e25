pub mod NextLines
pub mod Playing
