pub mod Undone
pub mod Free
pub mod Greatest
pub mod Signing
pub mod Tables
pub mod Placed
pub mod KeptCounts
