pub mod Scripts
pub mod Standing
pub mod Watches
pub mod Offers
pub mod Described
pub mod Good
pub mod Worked
pub mod WorkedOffers
