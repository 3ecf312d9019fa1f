mod Scanning
pub mod Chosen
pub mod DiskStaysRight
