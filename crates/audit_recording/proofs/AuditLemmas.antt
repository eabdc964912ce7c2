pub mod Apart
pub mod Clock
pub mod Counted
pub mod Taking
pub mod Writing
