pub mod Found
pub mod Pieces
pub mod Read
pub mod Taken
pub mod Listed
