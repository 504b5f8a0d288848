-- What the contracts of a tick cite.
pub mod Rewinding
pub mod Due
