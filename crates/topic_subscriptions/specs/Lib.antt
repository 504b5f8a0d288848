pub mod Closed
pub mod Done
pub mod Less
pub mod Placed
pub mod Sought
