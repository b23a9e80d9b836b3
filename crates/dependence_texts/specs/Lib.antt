pub mod Json
pub mod Lines
pub mod Parts
pub mod Told
