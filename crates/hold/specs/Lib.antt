-- The definitions that the contracts of this crate cite.
pub mod Meaning
pub mod Law
pub mod Told
