mod Draws
mod Examples
pub mod Laws
mod OwnSignals
mod Passing
mod Shapes
mod Stretches
mod TurnSights
