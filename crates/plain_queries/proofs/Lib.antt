pub mod Active
pub mod Turns
pub mod Hashes
mod Last
mod Marks
