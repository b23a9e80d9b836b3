pub mod Rows
pub mod Powers
pub mod Trapping
pub mod Folds
pub mod Counts
pub mod Laws
