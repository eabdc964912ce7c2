pub mod Turns
pub mod Positions
pub mod Greatest
