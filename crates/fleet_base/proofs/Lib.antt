pub mod ClaimLemmas
pub mod EdgeLemmas
pub mod Equal
