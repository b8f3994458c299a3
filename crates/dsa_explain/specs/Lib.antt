pub mod Held
pub mod Wait
pub mod Done
