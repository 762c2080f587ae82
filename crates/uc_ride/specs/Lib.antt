pub mod UnwindingFalls
pub mod RideStands
