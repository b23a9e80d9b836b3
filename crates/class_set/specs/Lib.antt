pub mod ClassSet
pub mod Members
