pub mod Breaks
pub mod Moves
