pub mod Sent
pub mod Named
pub mod Behind
pub mod GoneOn
pub mod First
mod Stood
mod Unnamed
mod StoodAtEnd
mod Seen
