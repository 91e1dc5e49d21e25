mod ShownRuns
mod Summaries
