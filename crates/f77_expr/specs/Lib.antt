-- Expressions read and printed: the piece of a text that is read, the reader by descent, and what is printed.
pub mod Answers
pub mod Appending
pub mod Constants
pub mod Operands
pub mod Parsing
pub mod Piece
pub mod Printing
pub mod Reader
pub mod Scanning
