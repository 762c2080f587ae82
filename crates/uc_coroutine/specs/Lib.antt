pub mod MainEnds
pub mod UnwindingSteps
pub mod Switching
pub mod Unwinding
