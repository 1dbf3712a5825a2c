-- The definitions that the contracts of this crate cite.
pub mod Stripes
pub mod View
