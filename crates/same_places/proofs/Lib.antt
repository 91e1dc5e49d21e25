mod Carried
mod Ends
mod FreeSteps
mod Kept
pub mod Laws
mod EntrySteps
mod Searched
mod Transfers
mod TriedChoices
mod Tries
