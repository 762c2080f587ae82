mod Goes
mod Faults
mod Whole
mod Bridge
