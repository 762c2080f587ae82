pub mod Seated
pub mod Seats
pub mod SeatedStates
pub mod TaskedRuns
pub mod TaskedLaws
pub mod OwnedRuns
pub mod Aims
