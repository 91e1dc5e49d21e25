mod Decimals
pub mod Digits
pub mod HartSets
pub mod HartStates
mod LineEnds
pub mod Lists
pub mod LiveThreads
pub mod RestingThreads
pub mod ToldThreads
