-- What the contracts of the fast topic cite.
pub mod Restored
