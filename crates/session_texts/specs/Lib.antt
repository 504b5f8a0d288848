pub mod Numbers
pub mod Requests
pub mod Asking
pub mod Outcomes
pub mod Unsent
