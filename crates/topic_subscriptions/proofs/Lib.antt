pub mod Changes
pub mod Differing
pub mod Done
pub mod Dying
pub mod Front
pub mod Grown
pub mod Lines
pub mod Links
pub mod Lowering
pub mod Outcomes
pub mod Trimmed
pub mod Undone
mod Examples
