pub mod Laws
pub mod Pending
