mod Answers
pub mod Slots
pub mod Calls
mod Refusals
pub mod Promises
