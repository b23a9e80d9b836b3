pub mod CopiedNames
pub mod CopiesNamed
pub mod WrittenNames
