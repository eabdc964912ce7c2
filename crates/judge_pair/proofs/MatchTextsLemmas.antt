pub mod Fronts
pub mod Halting
pub mod Steps
pub mod Sides
pub mod Both
pub mod Begun
pub mod Ending
pub mod Headline
