pub mod Blocks
pub mod Highest
pub mod Merging
pub mod Sides
pub mod Rests
pub mod Verdicts
pub mod SentByKept
