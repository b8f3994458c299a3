pub mod Choices
pub mod Stops
pub mod Writes
pub mod Alike
