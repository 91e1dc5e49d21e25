mod Explorations
mod Searches
