pub mod Keeping
pub mod Marking
pub mod TodoLists
pub mod Steps
pub mod Walk
