pub mod InTurn
pub mod UpTo
pub mod Counted
