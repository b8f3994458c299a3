pub mod Reports
pub mod Threads
pub mod CommandLine
pub mod Shards
pub mod Endings
pub mod Worked
