pub mod OptionMaps
pub mod Numbers
pub mod Answering
pub mod FaultOrder
pub mod Tested
