pub mod Faults
pub mod Levels
pub mod Loops
pub mod Found
pub mod Starts
