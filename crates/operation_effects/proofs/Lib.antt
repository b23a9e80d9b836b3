pub mod ValueReading
pub mod TaskEffects
pub mod ArraySizes
pub mod TaskShapes
pub mod FittingOperations
pub mod OperandReading
