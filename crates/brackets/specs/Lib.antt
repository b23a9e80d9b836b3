-- Sequences of brackets, how they are linked, and how the links are kept.
pub mod Brackets
pub mod Kept
pub mod Links
