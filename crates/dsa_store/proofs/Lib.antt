pub mod Places
pub mod Lists
pub mod Finding
pub mod Sums
pub mod Turns
pub mod Partition
pub mod Steps
pub mod Walks
