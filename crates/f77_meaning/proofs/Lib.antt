mod Words
pub mod Lines
mod Steps
