pub mod Labels
pub mod Key
pub mod Marks
pub mod Steps
pub mod Replays
pub mod Short
pub mod Parties
