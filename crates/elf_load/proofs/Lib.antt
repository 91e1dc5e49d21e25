mod Apart
mod Appending
mod Building
mod Choosing
mod Examples
mod Filling
pub mod Laws
mod Lists
mod Loaded
mod NoFault
mod Positions
mod Segments
mod Tables
