pub mod AloneRuns
pub mod LettingLaws
