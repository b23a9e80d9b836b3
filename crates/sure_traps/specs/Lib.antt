pub mod Causes
pub mod SureTraps
