pub mod Ends
pub mod Judgements
pub mod Outputs
pub mod Compositions
