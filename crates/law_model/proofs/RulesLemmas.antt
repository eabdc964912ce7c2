pub mod EndRules
pub mod Joined
