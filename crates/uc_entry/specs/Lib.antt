pub mod Listed
pub mod Lending
pub mod Faults
pub mod Keyed
