-- Statements read from their texts: readers of the parts and of the forms of statements.
pub mod Answers
pub mod Forms
pub mod Keeping
pub mod KeptValues
pub mod KeptForms
pub mod Parsing
pub mod Parts
