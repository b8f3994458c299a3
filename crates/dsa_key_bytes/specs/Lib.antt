pub mod Numbers
pub mod Line
pub mod KeyBytes
pub mod Marks
pub mod Worked
