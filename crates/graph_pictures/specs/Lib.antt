pub mod Boxes
pub mod FlowDot
pub mod GraphDot
pub mod Groups
pub mod Numbers
pub mod Regions
pub mod Wires
pub mod WiresDot
