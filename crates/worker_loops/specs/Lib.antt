-- What the contracts of the workers' loops cite.
pub mod Addresses
pub mod Silence
pub mod Tallies
