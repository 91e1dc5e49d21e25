mod Due
pub mod InTime
mod StepLimits
