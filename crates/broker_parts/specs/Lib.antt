-- What the contracts of a broker's parts cite.
pub mod Attendance
pub mod Bulks
pub mod Copies
pub mod Ends
pub mod Losses
pub mod Places
pub mod Steps
pub mod Visiting
