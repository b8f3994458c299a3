pub mod ByKind
pub mod FirstDevices
pub mod Lacking
