pub mod Lines
pub mod Walk
