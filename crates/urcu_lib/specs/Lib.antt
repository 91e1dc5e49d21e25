pub mod Blocks
pub mod Lines
pub mod Registers
pub mod Sections
pub mod Stretch
pub mod Uses
