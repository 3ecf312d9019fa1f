mod Laws
pub mod Room
