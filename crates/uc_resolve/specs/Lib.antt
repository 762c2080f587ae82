pub mod Standings
pub mod Resolve
