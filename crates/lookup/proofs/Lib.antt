pub mod Laws
pub mod Rows
pub mod Right
pub mod StaysRight
