pub mod Chart
pub mod Page
pub mod Rows
pub mod Spots
