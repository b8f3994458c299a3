pub mod Added
pub mod Text
pub mod Worked
