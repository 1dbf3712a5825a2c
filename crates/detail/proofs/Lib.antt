pub mod Listing
pub mod Moments
pub mod There
pub mod Written
pub mod Lawfuls
pub mod Forms31P
pub mod Worked
