pub mod Structured
