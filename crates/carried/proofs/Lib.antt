mod Blocks
pub mod Rows
pub mod CarriedParts
mod DiskByDisk
