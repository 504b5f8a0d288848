pub mod Used
mod Chosen
pub mod Placed
pub mod Handed
pub mod Moved
pub mod Saved
