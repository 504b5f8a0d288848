pub mod Pending
pub mod Codes
pub mod Kept
pub mod Counts
pub mod Seats
pub mod Due
pub mod Nodes
