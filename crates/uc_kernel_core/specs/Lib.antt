pub mod Mirrors
pub mod CoreActs
pub mod Waiters
pub mod DoorLaws
pub mod CallLaws
