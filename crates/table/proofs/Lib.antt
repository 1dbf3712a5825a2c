pub mod Places
pub mod Masks
