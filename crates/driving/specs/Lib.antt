pub mod Driving
pub mod Sized
