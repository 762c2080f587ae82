pub mod Bare
pub mod Children
pub mod Falling
pub mod Leading
pub mod Riding
pub mod Lowering
