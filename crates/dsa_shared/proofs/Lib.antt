pub mod Compares
pub mod Sums
pub mod Steps
pub mod Mismatches
pub mod Fresh
pub mod Agrees
