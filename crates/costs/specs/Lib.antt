pub mod Amounts
pub mod Costs
