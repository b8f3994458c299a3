pub mod Changes
pub mod Drawn
pub mod Ends
pub mod Nameless
pub mod RowTexts
pub mod Turns
