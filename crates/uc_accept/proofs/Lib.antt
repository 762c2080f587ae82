pub mod Rows
pub mod Trying
