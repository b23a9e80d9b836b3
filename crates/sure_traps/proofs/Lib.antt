pub mod Constants
pub mod Rows
pub mod Sound
pub mod Stops
pub mod Told
