pub mod Ended
pub mod Lefts
pub mod Switched
pub mod Unwound
