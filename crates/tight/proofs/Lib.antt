mod Answers
pub mod Alike
pub mod Window
pub mod Repeated
pub mod Family
pub mod Promises
