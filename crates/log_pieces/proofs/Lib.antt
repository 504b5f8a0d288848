pub mod Joined
pub mod Searching
pub mod Moments
pub mod Trimmed
