pub mod Digits
pub mod LeastCodes
pub mod LineSteps
pub mod Readings
pub mod WordSteps
