mod NodeLists
mod Rows
pub mod FiringRows
