pub mod Answers
mod Blocks
mod Complete
pub mod Counts
mod Digits
mod Gives
pub mod Lists
mod Longest
mod Open
mod Outcomes
pub mod Promises
pub mod Scan
mod SoFar
mod Steps
mod Texts
mod Viable
