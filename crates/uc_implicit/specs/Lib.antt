pub mod Heights
pub mod Numbers
pub mod Unwritten
