mod CommandCounts
pub mod Endings
mod Faults
pub mod Goals
pub mod Runs
mod ScriptSegments
