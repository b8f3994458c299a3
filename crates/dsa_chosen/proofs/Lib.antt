pub mod Beginnings
pub mod Ended
pub mod Lines
