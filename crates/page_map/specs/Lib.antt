pub mod Copying
pub mod Layout
pub mod Map
pub mod MapLaws
pub mod Mapping
pub mod Starting
pub mod Table
