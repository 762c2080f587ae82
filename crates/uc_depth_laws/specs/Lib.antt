pub mod Entering
pub mod Owing
pub mod DepthLaws
