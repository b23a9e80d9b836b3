pub mod Flows
pub mod Listed
pub mod Nested
