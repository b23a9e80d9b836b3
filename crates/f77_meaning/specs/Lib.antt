pub mod Storage
pub mod Room
pub mod Kinds
pub mod Stepper
