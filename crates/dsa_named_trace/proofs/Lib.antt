pub mod Ends
pub mod Pages
pub mod Streams
