pub mod Obeys
pub mod Walks
pub mod Worked
