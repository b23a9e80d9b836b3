pub mod Causes
pub mod Declarations
pub mod Labels
pub mod Places
