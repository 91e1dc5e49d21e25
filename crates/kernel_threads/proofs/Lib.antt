mod Addresses
mod FoundPlaces
mod Kept
pub mod Laws
mod Moved
mod Opened
mod RowsRead
mod SavedAfter
mod SavedThere
mod Stuck
mod Viewed
