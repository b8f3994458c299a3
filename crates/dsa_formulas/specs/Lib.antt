pub mod Facts
pub mod Formulas
