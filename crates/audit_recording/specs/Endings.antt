pub mod Told
pub mod Pace
pub mod Kept
pub mod Worked
pub mod Undelivered
