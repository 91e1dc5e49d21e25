mod Examples
pub mod Laws
pub mod Meanings
pub mod Outcomes
pub mod Rows
