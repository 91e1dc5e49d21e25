pub mod Calls
pub mod ExecLaw
pub mod Fences
pub mod GoingOn
pub mod OwnerLaw
pub mod ThreadLaw
pub mod WordLaw
