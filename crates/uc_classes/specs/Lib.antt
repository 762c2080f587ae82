pub mod Circling
pub mod Counted
pub mod Apart
