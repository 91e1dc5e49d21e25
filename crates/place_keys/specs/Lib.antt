pub mod Differences
pub mod HartWords
pub mod MappedPages
pub mod Packed
pub mod PageWords
pub mod PartWords
pub mod TableWords
pub mod Words
