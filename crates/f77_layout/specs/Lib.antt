pub mod Answers
pub mod Depths
pub mod Laid
pub mod Leading
pub mod Stages
