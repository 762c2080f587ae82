pub mod JournalSums
pub mod EntryAnswers
