pub mod Answered
pub mod Calls
pub mod Lifts
pub mod Turns
