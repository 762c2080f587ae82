pub mod Events
pub mod Flat
pub mod Routines
pub mod Sites
