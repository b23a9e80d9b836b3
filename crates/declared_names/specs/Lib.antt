pub mod Described
pub mod Functions
pub mod KeptDeclarations
pub mod KindsGiven
pub mod Noting
