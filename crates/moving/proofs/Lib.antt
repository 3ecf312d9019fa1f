pub mod Moves
pub mod PointerRight
