mod Alone
mod Apart
mod SiteLemmas
mod Costs
mod Distinct
mod Ending
pub mod RoutineLayoutLemmas
pub mod Mained
pub mod Memberships
mod Named
mod Numbered
mod Numbers
mod Owed
mod Placed
pub mod Refused
pub mod Ruled
mod Rooms
pub mod Silence
mod Sums
mod Unwritten
