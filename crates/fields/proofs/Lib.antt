pub mod Rows
pub mod Lawfuls
