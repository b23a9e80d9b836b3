pub mod Tasks
pub mod Codes
pub mod Reading
pub mod Due
pub mod Answers
