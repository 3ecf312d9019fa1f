pub mod SlotsText
pub mod Text
