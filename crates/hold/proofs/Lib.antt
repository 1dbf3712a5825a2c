pub mod Cells
mod Laws
mod Turns
