pub mod Dropped
pub mod Sought
pub mod Skipped
pub mod InTurn
