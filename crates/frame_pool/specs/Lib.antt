pub mod Held
pub mod Layout
pub mod Lending
pub mod Pool
