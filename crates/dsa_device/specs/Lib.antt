pub mod Running
pub mod Made
pub mod Runs
pub mod Reads
