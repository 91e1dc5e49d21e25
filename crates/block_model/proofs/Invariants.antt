-- For each kind of event: what it does where it is not refused keeps what holds at each place of a run.
pub mod Calls
pub mod EachEvent
pub mod Events
pub mod Instructions
