pub mod Found
pub mod Parts
pub mod Forms
pub mod Leads
pub mod Heads
