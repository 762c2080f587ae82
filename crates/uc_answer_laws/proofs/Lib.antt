pub mod Told
pub mod Stacks
pub mod Steps
pub mod Rows
pub mod Whole
pub mod Runs
pub mod Asking
