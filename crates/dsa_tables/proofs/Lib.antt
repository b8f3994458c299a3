pub mod Texts
pub mod Ordered
