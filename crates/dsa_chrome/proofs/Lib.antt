mod Texts
mod Turns
