pub mod Linked
pub mod Links
pub mod Mirrors
pub mod Rows
pub mod Tables
pub mod Waits
