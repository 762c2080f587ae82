pub mod OrderLemmas
pub mod SameLemmas
pub mod WaitLemmas
pub mod StepLemmas
pub mod LineLemmas
pub mod ViewLemmas
pub mod OthersLemmas
