pub mod Parts
pub mod Spans
pub mod Closing
