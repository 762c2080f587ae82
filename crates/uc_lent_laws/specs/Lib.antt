pub mod LentStates
pub mod LentRuns
