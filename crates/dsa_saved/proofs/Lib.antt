pub mod Written
pub mod Equal
pub mod Making
pub mod Loaded
pub mod Faulty
