pub mod Clear
pub mod Own
pub mod Before
