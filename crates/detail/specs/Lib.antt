pub mod Codes
pub mod Detail
pub mod Reading
pub mod Writing
pub mod Laws
pub mod Readings
pub mod Words
