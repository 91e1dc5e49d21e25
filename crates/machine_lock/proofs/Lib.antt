mod Keeps
pub mod Laws
mod LogLemmas
mod NumberLemmas
mod PassLemmas
mod Totals
