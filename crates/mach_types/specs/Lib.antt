pub mod Bytes
pub mod Events
pub mod Flat
pub mod Kernel
pub mod Limits
pub mod Registers
