pub mod Holding
pub mod FailedMembers
pub mod Active
pub mod Late
