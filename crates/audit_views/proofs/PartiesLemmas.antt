pub mod Names
pub mod Addresses
