-- What the contracts of the dispatcher of Shared cite.
pub mod Turn
pub mod Seats
