pub mod Captures
pub mod Entries
pub mod Notes
pub mod Writing
