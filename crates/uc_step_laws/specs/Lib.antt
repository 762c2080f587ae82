pub mod Hands
pub mod Settled
pub mod StepLaws
