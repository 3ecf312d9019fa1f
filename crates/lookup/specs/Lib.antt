pub mod Lookup
pub mod Desk
