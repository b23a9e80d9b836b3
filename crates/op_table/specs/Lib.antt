pub mod Words
pub mod Operators
pub mod Known
pub mod Trips
