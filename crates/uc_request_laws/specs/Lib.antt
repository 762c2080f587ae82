pub mod RequestLaws
pub mod Holds
pub mod Leaving
pub mod Remaining
pub mod Lasting
pub mod ApartRuns
