pub mod Mentioned
pub mod Nameless
pub mod Told
