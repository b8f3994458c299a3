pub mod Calls
pub mod Workers
