pub mod Listed
pub mod Twice
pub mod Unplaced
