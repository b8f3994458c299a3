pub mod Awaited
pub mod Lines
pub mod Run
pub mod Worked
