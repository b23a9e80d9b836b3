pub mod Accepted
pub mod Answers
pub mod Listed
pub mod Reading
