pub mod Shown
pub mod Lines
pub mod Run
pub mod Streams
pub mod Worked
