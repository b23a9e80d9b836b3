pub mod NameWords
pub mod OperationNames
pub mod GraphText
pub mod Below
pub mod GivenText
pub mod NameSets
pub mod EdgeTables
