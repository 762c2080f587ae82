pub mod Clauses
pub mod Flags
pub mod Tellings
