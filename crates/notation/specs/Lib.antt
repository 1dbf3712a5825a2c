pub mod Classes
pub mod Digits
pub mod Refusals
pub mod Words
