pub mod Kept
pub mod Steps
pub mod Walk
pub mod Expressions
pub mod Statements
pub mod Routines
