mod Counting
mod Frames
mod FreeNumbers
mod Fresh
mod Held
mod Holding
mod LaidOut
pub mod Laws
mod Places
mod Pools
mod Zeroing
mod Shown
mod Zeros
