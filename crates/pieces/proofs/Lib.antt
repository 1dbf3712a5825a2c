pub mod Slices
pub mod Numbers
pub mod Forms
pub mod Commas
pub mod Plains
pub mod Laws
pub mod Bounds
pub mod Growing
