pub mod LegalRoutes
pub mod Merges
pub mod Members
pub mod Bindings
pub mod Orders
pub mod Reports
