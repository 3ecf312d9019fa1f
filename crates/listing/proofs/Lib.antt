pub mod PassesPrinted
pub mod Cases
