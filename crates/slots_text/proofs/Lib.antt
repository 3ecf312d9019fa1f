pub mod SlotsPrinted
pub mod Cut
pub mod Cases
