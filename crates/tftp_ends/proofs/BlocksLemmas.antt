pub mod Stores
pub mod Orderly
pub mod Places
pub mod Ring
pub mod Spans
pub mod Kept
