pub mod RewrittenSteps
pub mod SharedRuns
pub mod SharedFlat
