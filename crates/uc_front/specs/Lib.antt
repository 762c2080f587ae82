pub mod Places
pub mod Typed
