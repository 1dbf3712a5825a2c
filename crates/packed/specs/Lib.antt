-- The definitions that the contracts of this crate cite.
pub mod Spans
pub mod View
