pub mod Begun
pub mod Stepless
