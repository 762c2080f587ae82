pub mod ByClasses
pub mod FlatLemmas
pub mod Listed
pub mod Past
pub mod Places
pub mod Put
