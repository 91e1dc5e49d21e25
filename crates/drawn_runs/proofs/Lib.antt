mod Able
mod Allowed
mod Examples
pub mod Laws
mod Logs
mod OneRun
mod Opened
mod OwnSignals
mod Places
mod PromptRuns
mod ReadyNumbers
mod Work
