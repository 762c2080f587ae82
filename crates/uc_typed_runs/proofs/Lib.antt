pub mod Spawning
pub mod Hands
pub mod Worlds
pub mod Openings
pub mod Endings
pub mod Readings
pub mod TextReads
pub mod FoundTexts
