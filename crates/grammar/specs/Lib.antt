pub mod Note
pub mod Reading
pub mod Places
