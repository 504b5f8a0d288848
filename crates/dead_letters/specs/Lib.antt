-- What the contracts of the courier, and the laws of moves, cite.
pub mod Moving
pub mod Steps
pub mod Worlds
pub mod Couriers
pub mod Letters
pub mod Laws
pub mod Together
