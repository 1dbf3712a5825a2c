pub mod Notation
pub mod Shown
pub mod Rows
pub mod Plain
pub mod Calendar
pub mod Words
pub mod Cuts
pub mod Scratches
