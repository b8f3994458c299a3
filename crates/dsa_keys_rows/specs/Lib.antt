pub mod Holding
pub mod Histories
pub mod Parties
