pub mod Withdrawals
pub mod Notes
pub mod Commands
pub mod Resizing
pub mod Counting
mod Naming
pub mod Refusing
