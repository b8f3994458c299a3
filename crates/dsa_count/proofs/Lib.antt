pub mod Texts
pub mod Gathering
pub mod Rising
