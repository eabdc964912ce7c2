pub mod Numbers
pub mod Judging
pub mod Settling
pub mod Feeding
pub mod Holding
pub mod Passing
