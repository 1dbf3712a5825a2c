pub mod Openings
pub mod Taking
pub mod Follows
pub mod Single
pub mod Whole
