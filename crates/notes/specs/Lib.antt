pub mod Readers
pub mod Notes
