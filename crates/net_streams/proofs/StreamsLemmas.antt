pub mod Gathering
pub mod ReadBehind
pub mod Taking
