mod RunningThreads
mod TakenFrames
