pub mod Listed
pub mod Firsts
