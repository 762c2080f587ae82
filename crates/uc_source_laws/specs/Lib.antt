pub mod SourceLaws
pub mod Initialising
