pub mod Typing
pub mod Pieces
pub mod States
pub mod Finds
pub mod Laws
pub mod Samples
