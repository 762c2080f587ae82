pub mod Mains
pub mod MainNames
pub mod CallExprs
pub mod CallStatements
pub mod CallRoutines
pub mod BothWalks
pub mod CallParts
