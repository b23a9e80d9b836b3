pub mod Counts
pub mod KeyPlaces
pub mod Members
pub mod Ranges
