pub mod Below
pub mod NameSteps
