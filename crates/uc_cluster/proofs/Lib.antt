pub mod Asked
pub mod Bits
pub mod Desks
pub mod Marks
pub mod Mirrors
pub mod Places
pub mod Queues
pub mod Rows
