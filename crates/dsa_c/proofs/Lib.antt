pub mod Loading
pub mod Machines
pub mod Naming
pub mod Offers
pub mod Placing
pub mod Telling
pub mod Unboxing
pub mod WrongCaps
