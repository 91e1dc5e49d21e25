pub mod Fields
pub mod Faults
pub mod Images
pub mod Paging
pub mod Numbers
pub mod Start
