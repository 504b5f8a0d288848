pub mod Apart
pub mod Placed
pub mod Free
pub mod Shares
pub mod Joins
pub mod Leaves
mod Examples
