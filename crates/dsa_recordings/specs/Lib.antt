pub mod Texts
pub mod Recordings
pub mod Reading
pub mod Worked
