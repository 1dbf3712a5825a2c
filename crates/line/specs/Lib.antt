-- The definitions that the contracts of this crate cite.
pub mod Settings
pub mod Notices
pub mod Steps
pub mod View
pub mod Composing
