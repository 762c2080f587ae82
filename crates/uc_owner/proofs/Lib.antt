mod Lone
pub mod Outside
