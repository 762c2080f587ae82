pub mod Running
pub mod Away
pub mod OwnPrograms
