-- The meaning of swings, and their laws.
pub mod SwingLaws
pub mod Swinging
pub mod SwingsView
