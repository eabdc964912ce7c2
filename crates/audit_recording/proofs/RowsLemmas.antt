pub mod Accusing
pub mod Placing
pub mod AllTold
