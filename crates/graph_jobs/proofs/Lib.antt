mod RegionsTold
pub mod GraphMade
