pub mod Faults
pub mod Reading
pub mod Taking
pub mod Limited
pub mod Told
pub mod Memory
