pub mod Regions
pub mod Found
pub mod Drawn
pub mod DueGraphs
