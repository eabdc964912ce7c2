pub mod Encoding
pub mod InPieces
pub mod Joining
pub mod Lanes
pub mod Nibbles
pub mod Pairs
