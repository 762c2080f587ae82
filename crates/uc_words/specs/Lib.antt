pub mod Words
pub mod Rest
pub mod Commands
