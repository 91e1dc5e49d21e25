pub mod Pages
pub mod View
pub mod Waiting
pub mod Words
