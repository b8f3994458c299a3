pub mod Values
pub mod Places
pub mod Axes
pub mod Told
pub mod Family
pub mod Worked
