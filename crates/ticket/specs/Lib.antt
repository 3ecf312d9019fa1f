pub mod Rows
pub mod Meaning
