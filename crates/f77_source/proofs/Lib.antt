pub mod Lines
pub mod OneUnit
pub mod Refusals
pub mod Statements
