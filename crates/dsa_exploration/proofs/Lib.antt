pub mod Gathering
pub mod Faults
pub mod Plans
pub mod Shown
pub mod WalkTexts
pub mod Answered
