pub mod Laws
pub mod Printed
pub mod Cut
pub mod Cases
