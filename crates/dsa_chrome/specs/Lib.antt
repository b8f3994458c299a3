pub mod Lanes
pub mod Events
pub mod Slices
pub mod Counters
pub mod Pages
pub mod Traces
pub mod Worked
