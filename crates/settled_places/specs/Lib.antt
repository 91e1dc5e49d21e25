pub mod Budgets
pub mod Edges
pub mod Endings
pub mod SettledSearch
pub mod Settling
pub mod Walks
