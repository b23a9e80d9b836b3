pub mod Page
pub mod Pictures
pub mod Sections
