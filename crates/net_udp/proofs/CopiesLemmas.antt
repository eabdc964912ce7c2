pub mod Holding
pub mod Told
