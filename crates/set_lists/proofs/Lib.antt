mod Grown
pub mod Past
