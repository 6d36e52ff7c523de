pub mod Links
pub mod LeastLabels
pub mod Agreement
pub mod Checking
pub mod Entering
pub mod Searching
