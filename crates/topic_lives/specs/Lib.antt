-- What the contracts of what is left of a deleted topic cite, and the laws over its lives.
pub mod Deleting
pub mod Lives
pub mod Laws
