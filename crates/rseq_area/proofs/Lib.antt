mod Descriptors
mod LowestFree
mod Readings
mod WordsWritten
