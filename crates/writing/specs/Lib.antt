pub mod Writing
pub mod Heading
pub mod Tallying
