mod Backward
pub mod Laws
pub mod Opened
