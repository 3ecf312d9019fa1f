mod Cases
pub mod Digits
