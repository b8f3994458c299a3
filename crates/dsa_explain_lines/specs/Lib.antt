pub mod Sentences
pub mod Parts
pub mod Lines
pub mod Run
pub mod Success
