pub mod Rows
pub mod Jobs
pub mod Answers
pub mod Ticket
pub mod Stop
pub mod Counting
pub mod Playing
pub mod Buffers
pub mod Carried
pub mod CarriedFields
pub mod Sheets
pub mod Check
pub mod Numbers
pub mod Refusals
pub mod Longest
pub mod Distances
pub mod Choosing
pub mod Missing
pub mod Rounds
pub mod Plans
pub mod Charged
pub mod Effects
pub mod Short
pub mod Sparing
pub mod Written
pub mod Validity
pub mod Bytes
mod Waiting
mod ChargedCalls
mod Stricter
pub mod TwoSheets
pub mod Text
pub mod Page
pub mod PageCall
pub mod StopCalls
pub mod Promises
