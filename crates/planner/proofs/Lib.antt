pub mod Joined
pub mod Laws
pub mod Numbers
mod Promised
mod TwoSheets
mod Slots
