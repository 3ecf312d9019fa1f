pub mod Values
pub mod TwoSheets
