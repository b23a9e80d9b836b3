pub mod PrintedArrays
pub mod PrintedStatements
pub mod ReadAgain
pub mod ReadLines
pub mod SourceStatements
pub mod StorageRefusals
pub mod ReadBack
