pub mod OpenedRuns
