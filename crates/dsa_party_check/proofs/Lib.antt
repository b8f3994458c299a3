pub mod Led
pub mod Deep
pub mod Asked
