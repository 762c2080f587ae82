pub mod Comments
pub mod Endings
pub mod Inside
pub mod Whole
