mod Copies
mod Examples
mod Finds
mod FirstAllowed
mod Kept
pub mod Laws
mod Lists
mod Marked
mod OtherHarts
mod StaysWhole
