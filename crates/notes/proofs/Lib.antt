pub mod Scanning
pub mod Lines
pub mod Parts
pub mod Joints
pub mod SoFar
pub mod Turn
pub mod Whole
