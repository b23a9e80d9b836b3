pub mod NetParts
