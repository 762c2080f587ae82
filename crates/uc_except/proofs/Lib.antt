pub mod Catches
pub mod Handled
pub mod Levels
pub mod Seeks
pub mod Taken
pub mod Thrown
