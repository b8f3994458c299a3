mod Cases
mod Once
mod Stored
mod Linked
mod Pushed
