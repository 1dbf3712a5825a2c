pub mod Slashes
pub mod Rebates
pub mod Followers
pub mod Sums
pub mod Charged
