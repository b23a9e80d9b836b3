pub mod Lines
pub mod ShownLines
pub mod Statuses
pub mod Told
