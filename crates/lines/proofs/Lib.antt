pub mod Laws
mod Columns
pub mod LineRead
