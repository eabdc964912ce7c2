pub mod Filled
pub mod Mending
pub mod Reading
