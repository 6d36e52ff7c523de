pub mod Courses
pub mod Fleets
pub mod Standing
