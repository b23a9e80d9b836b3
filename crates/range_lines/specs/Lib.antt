pub mod Marks
pub mod RangeRisks
pub mod RangeTouches
pub mod Ranges
pub mod Reaches
pub mod Shapes
