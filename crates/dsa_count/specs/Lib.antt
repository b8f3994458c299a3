pub mod Submissions
pub mod Tallies
pub mod Peaks
pub mod Waits
pub mod Fates
pub mod Totals
pub mod Worked
