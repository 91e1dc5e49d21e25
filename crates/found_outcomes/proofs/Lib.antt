mod Agreement
pub mod Laws
mod SameEnds
