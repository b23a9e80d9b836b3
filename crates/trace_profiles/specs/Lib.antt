pub mod Profiles
pub mod Rounds
pub mod Rows
pub mod RunRounds
pub mod Tables
pub mod Widths
