mod LineParts
mod Writing
