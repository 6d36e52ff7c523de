pub mod Bits
pub mod Shortcuts
pub mod LeastWays
pub mod ModelCycles
pub mod Levels
pub mod Checks
