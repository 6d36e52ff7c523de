pub mod Counts
pub mod FreeRoutes
pub mod Looks
