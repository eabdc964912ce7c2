pub mod Watching
pub mod Keeping
pub mod Finding
