pub mod Words
pub mod Format
pub mod Said
pub mod Saved
pub mod Steps
pub mod Faults
pub mod Worked
