pub mod FirstBreak
pub mod Members
pub mod OuterConstructors
pub mod TableInvariant
pub mod Listings
pub mod Lengths
pub mod LocalBlocks
