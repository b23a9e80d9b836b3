pub mod DueSamples
pub mod Samples
