pub mod Endpoints
pub mod Histories
pub mod Lines
pub mod Noted
pub mod Requests
pub mod Silences
