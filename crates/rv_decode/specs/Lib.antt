pub mod Selectors
