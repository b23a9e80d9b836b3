pub mod UnitParts
pub mod Names
