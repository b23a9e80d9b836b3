pub mod Again
pub mod FlowAgain
pub mod GraphAgain
pub mod Loops
pub mod PrintedAgain
pub mod Texts
pub mod TraceAgain
