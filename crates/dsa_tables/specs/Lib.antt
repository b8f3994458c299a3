pub mod Words
pub mod Lines
pub mod Naming
pub mod Table
pub mod Samples
pub mod Worked
pub mod Ends
pub mod Objects
