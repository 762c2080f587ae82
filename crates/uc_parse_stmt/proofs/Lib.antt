pub mod Told
pub mod LeadsLemmas
pub mod HeadsLemmas
pub mod Below
