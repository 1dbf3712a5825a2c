pub mod Deals
pub mod Texts
pub mod Views
pub mod Writing
pub mod Laws
pub mod Readings
