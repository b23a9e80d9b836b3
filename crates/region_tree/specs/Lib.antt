pub mod Classes
pub mod Facts
pub mod Laws
pub mod Listing
pub mod Nesting
pub mod RegionTable
pub mod Scan
pub mod Tree
