pub mod Multiples
pub mod Arithmetic
pub mod FormValues
pub mod Starts
pub mod PlainRuns
pub mod SeenValues
