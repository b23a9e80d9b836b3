pub mod ListedDeclarations
pub mod ChangedTables
pub mod SideBySide
