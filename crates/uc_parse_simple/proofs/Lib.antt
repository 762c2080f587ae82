pub mod Other
pub mod Steps
