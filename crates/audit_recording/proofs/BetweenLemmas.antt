pub mod Numbering
pub mod Tapping
pub mod Sides
pub mod Settling
pub mod Feeding
pub mod Holding
