pub mod Accounts
pub mod BatchCounts
pub mod FreeCells
