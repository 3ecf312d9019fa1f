pub mod Bits
pub mod Reading
pub mod Fields
