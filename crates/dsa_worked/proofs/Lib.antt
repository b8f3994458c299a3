pub mod Bounded
pub mod Parts
