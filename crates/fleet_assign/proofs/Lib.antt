pub mod RouteCosts
pub mod Columns
pub mod Assigned
