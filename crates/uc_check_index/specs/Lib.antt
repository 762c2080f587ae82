pub mod Keys
pub mod Firsts
pub mod Topics
pub mod Indexed
pub mod Marked
pub mod Clashing
