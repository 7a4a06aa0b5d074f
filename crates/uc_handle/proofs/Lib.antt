mod Addresses
mod Values
