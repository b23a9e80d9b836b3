pub mod Words
pub mod Meant
pub mod WordsDue
