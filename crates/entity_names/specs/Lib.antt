pub mod UnitBlocks
pub mod UnitEntities
