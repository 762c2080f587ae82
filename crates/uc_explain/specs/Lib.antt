pub mod Shown
pub mod Explained
pub mod Steps
pub mod Seen
pub mod Sample
