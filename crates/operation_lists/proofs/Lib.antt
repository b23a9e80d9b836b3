pub mod CompiledLists
pub mod DimensionParts
pub mod ItemLists
pub mod ListLemmas
