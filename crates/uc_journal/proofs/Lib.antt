mod Digits
mod Numbers
mod Words
mod Entries
mod Journals
