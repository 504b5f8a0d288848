-- What the contracts of sets of ranges cite: ranges of numbers, how a set is kept by them, and how a number joins them.
pub mod Joining
pub mod Kept
pub mod Lowered
pub mod Ranges
