mod DueChoices
mod OwedSets
mod Sets
mod TrapReadings
