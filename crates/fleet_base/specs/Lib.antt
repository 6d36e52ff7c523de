pub mod Blockers
pub mod ClaimLists
pub mod ClaimSets
pub mod EdgeSets
pub mod HeldLists
pub mod Lists
pub mod RobotLists
