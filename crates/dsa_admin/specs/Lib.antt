pub mod Admin
pub mod Command
pub mod Worked
