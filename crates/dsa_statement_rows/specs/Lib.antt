pub mod Searches
pub mod RandomWalks
pub mod Standings
