pub mod Constants
pub mod Joined
pub mod Told
