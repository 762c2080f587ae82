pub mod Blocks
pub mod Joined
pub mod Starts
pub mod Walks
pub mod Unlisted
