pub mod MoreSections
