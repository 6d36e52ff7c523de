pub mod Cells
pub mod Crossings
pub mod Built
pub mod Claims
pub mod Goals
pub mod Refusals
pub mod Inside
pub mod Valid
