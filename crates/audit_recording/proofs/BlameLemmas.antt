pub mod Refusing
pub mod Telling
pub mod Holding
pub mod Trailing
pub mod Answering
pub mod Closing
pub mod Pacing
