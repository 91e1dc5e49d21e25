pub mod Digits
mod Examples
pub mod OutputTexts
mod PlaceTexts
