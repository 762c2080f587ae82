pub mod RowSearch
pub mod Handling
pub mod FoundAgrees
