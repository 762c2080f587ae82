pub mod LentCells
pub mod LentSteps
pub mod LentWalk
pub mod LentWorlds
