pub mod RunningLemmas
pub mod AwayLemmas
pub mod OwnPrograms
