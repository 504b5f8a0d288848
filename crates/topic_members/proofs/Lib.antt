pub mod Halving
pub mod Placed
pub mod Numbered
pub mod Lined
pub mod Given
