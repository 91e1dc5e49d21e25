mod Credits
mod Draws
mod Examples
pub mod Laws
mod Picks
pub mod Sights
