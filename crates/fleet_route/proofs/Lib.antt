mod Faults
pub mod Told
