pub mod Circles
pub mod Counts
pub mod First
pub mod Walked
pub mod NoBack
mod Inside
