pub mod Sizes
pub mod Opened
pub mod Started
