pub mod Scopes
pub mod Places
pub mod Sites
pub mod CellTodos
pub mod CellStates
pub mod Classes
pub mod OwnCells
pub mod Coroutines
