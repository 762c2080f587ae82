pub mod Hands
pub mod Insiders
pub mod NewObjects
pub mod Owners
pub mod StandingWorlds
pub mod LettingWorlds
