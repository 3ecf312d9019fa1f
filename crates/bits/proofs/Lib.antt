pub mod Logic
pub mod Reading
pub mod Bits
pub mod Repeated
pub mod Leading
pub mod Fields
mod Window
mod Stores
mod Closing
