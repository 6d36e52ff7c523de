pub mod CellWords
pub mod EventNumbers
pub mod GoodLines
pub mod LineSteps
pub mod SiteNames
pub mod Texts
