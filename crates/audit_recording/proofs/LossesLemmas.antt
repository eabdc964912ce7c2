pub mod Changing
pub mod Keeping
pub mod Answering
pub mod Standing
pub mod Others
pub mod Waiting
