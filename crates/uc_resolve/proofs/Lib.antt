pub mod Classless
