pub mod Table
pub mod Terms
pub mod Codes
