pub mod Naming
pub mod Known
pub mod Silent
