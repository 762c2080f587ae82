pub mod Places
pub mod Registries
pub mod Makers
pub mod Runs
pub mod Rest
pub mod Desks
pub mod Workers
