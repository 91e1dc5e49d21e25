pub mod Aiming
pub mod Items
pub mod Words
