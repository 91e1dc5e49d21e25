mod HartSets
mod Neighbours
