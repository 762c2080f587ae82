pub mod Bodies
pub mod Fields
pub mod Inits
pub mod OpenParts
