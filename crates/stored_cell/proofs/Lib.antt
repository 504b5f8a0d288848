pub mod SafeKept
pub mod GoingOver
pub mod Letters
pub mod Sound
