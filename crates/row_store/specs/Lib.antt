-- What the contracts of a keeper cite.
pub mod Begun
pub mod Keeping
pub mod Found
pub mod Counting
pub mod Looking
pub mod Lives
pub mod Opened
pub mod Unstored
pub mod Promise
