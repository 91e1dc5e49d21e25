-- Plain events of different harts, of which neither touches the other's bytes, may be made in either order.
pub mod Commuting
pub mod Logs
pub mod Outcomes
pub mod Pairs
pub mod PlainDone
pub mod PlainEvents
pub mod Untouched
