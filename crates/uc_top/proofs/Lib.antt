pub mod Prints
pub mod Pieces
pub mod Line
pub mod Leave
pub mod Frames
pub mod MainLemmas
pub mod Causes
pub mod Findings
pub mod Ran
pub mod Places
pub mod FaultLemmas
pub mod FirstLemmas
pub mod CauseLemmas
mod RoomLemmas
pub mod AnswerLemmas
pub mod JournalLemmas
pub mod Lengths
pub mod RoomBounds
