pub mod Laws
mod Masks
mod Rows
mod Selected
mod Shapes
