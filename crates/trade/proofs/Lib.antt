pub mod Steps
pub mod Takes
pub mod Unique
pub mod Round
pub mod Writings
pub mod Worked
