pub mod ShortFlow
pub mod ShortNet
pub mod ShortProgram
pub mod TraceOf
pub mod PrintedTexts
