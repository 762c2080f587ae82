pub mod Journals
pub mod Rule
pub mod Meanings
pub mod Lending
