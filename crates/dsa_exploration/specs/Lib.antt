pub mod Plan
pub mod Exploration
pub mod Showing
pub mod Sampling
pub mod Worked
