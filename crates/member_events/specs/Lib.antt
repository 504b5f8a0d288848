-- What the contracts of the fast topic's events of consumers cite.
pub mod Places
pub mod Active
pub mod Entering
