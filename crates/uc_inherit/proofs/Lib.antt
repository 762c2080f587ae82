pub mod Picked
pub mod Heads
