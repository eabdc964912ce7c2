pub mod Hosts
pub mod Ways
