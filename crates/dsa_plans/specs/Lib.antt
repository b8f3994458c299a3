pub mod Said
pub mod Submitters
pub mod Acting
pub mod Plans
pub mod PartyLabels
pub mod Worked
pub mod Reads
