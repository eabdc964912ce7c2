pub mod Noted
pub mod Kept
