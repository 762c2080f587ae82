pub mod TypedRuns
pub mod TextReads
pub mod FoundTexts
