pub mod MaskLemmas
pub mod CapsLemmas
pub mod Places
