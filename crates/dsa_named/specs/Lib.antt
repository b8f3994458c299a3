pub mod Names
pub mod Notes
pub mod Steps
pub mod Worked
