pub mod Faults
pub mod Looping
pub mod Whole
