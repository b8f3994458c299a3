pub mod Items
pub mod Steps
pub mod Blocks
pub mod Fit
pub mod Labelled
pub mod Plain
