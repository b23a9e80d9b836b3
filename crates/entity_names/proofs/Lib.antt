mod DummyPlaces
pub mod FewPlaces
mod CommonPlaces
mod OwnEntities
mod FreeTexts
pub mod FirstBlocks
mod Results
pub mod PutLists
pub mod PutDecls
pub mod GreatNames
pub mod KeptNames
pub mod BlockPlaces
pub mod NumberedNames
pub mod NamedEntities
