pub mod Faults
pub mod Pieces
pub mod Places
pub mod Runs
