pub mod Spelled
pub mod Division
pub mod FirstBroken
pub mod Accord
pub mod Completeness
pub mod Soundness
pub mod Whole
pub mod Written
