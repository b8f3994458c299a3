pub mod Names
pub mod Requests
pub mod Answers
pub mod Input
pub mod Dialogue
pub mod Worked
