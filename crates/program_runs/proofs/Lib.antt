mod Trials
mod Wholes
