pub mod Grammar
pub mod Parts
pub mod Reading
pub mod Script
pub mod Text
