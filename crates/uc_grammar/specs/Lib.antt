pub mod Names
pub mod Spell
pub mod Form
pub mod Tables
pub mod Grammar
pub mod Text
pub mod Samples
pub mod Deep
