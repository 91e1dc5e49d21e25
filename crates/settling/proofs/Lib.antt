mod Descriptors
mod Kept
mod Reading
mod Settling
