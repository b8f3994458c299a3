pub mod Numbers
pub mod SelfEnding
mod PartEnds
pub mod Apart
mod Lines
mod Walked
