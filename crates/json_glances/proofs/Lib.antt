pub mod Opened
pub mod Taken
pub mod Turns
pub mod Values
