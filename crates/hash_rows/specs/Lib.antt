-- What the contracts of a hash's row cite.
pub mod Ranks
pub mod Rows
pub mod Hashes
pub mod Standing
pub mod Knowing
