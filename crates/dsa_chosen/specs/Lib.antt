pub mod Words
pub mod Selected
pub mod Run
pub mod Worked
