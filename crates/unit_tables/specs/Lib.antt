pub mod Bounds
pub mod Growth
pub mod Pieces
pub mod Units
