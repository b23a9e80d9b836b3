pub mod Call
pub mod Gathered
pub mod Words
