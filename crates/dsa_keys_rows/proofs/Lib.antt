pub mod OneClient
pub mod Distinct
pub mod Ends
