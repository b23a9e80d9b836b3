pub mod Help
pub mod Numbers
pub mod RunWords
pub mod Words
