pub mod DueForms
pub mod Stopping
