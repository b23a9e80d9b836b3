pub mod Chart
pub mod Grounds
pub mod Marks
pub mod Ways
