mod Allowed
mod Examples
pub mod Laws
mod OwnSignals
