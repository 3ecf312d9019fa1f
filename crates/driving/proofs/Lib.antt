pub mod Input
pub mod TurnsRight
mod Sizes
mod WrittenSoFar
mod RestOfPlan
pub mod Driven
