pub mod FirstsLemmas
pub mod KeysLemmas
pub mod Askings
pub mod Clashes
pub mod Marks
pub mod Turns
