pub mod RoutineLayout
pub mod Mains
pub mod Refusals
pub mod RowRanges
