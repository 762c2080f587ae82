mod Numerals
mod Lexing
mod GeneratedTokens
mod Moved
mod Trees
mod Spelled
mod Unbroken
mod Sized
