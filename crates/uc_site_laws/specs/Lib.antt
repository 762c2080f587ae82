pub mod Resting
pub mod Named
pub mod Naming
pub mod SiteLaws
