pub mod Fair
pub mod Spared
pub mod Finality
