pub mod Form
pub mod Printed
pub mod Replay
pub mod Sound
pub mod Stops
pub mod Tails
