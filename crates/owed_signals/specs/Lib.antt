pub mod Dues
pub mod Owing
