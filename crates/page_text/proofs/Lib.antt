pub mod PagePrinted
pub mod Cut
pub mod Cases
