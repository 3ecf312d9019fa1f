pub mod Packing
pub mod Headed
pub mod Tallied
pub mod Reasons
