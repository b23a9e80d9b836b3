pub mod Causes
pub mod Declarations
