pub mod Ranks
pub mod Marks
pub mod From
pub mod Shed
pub mod Known
pub mod Moving
pub mod Changed
pub mod Trimmed
