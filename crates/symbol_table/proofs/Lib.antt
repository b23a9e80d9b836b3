mod FewNames
pub mod NameEntries
