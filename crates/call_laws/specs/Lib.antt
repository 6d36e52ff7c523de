pub mod Least
pub mod Proposals
pub mod Bindings
pub mod Orders
pub mod Reports
