pub mod Adding
pub mod Listed
pub mod Numbers
pub mod Snapshots
