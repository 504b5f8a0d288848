-- What the contracts of reading cite.
pub mod KeyOrder
pub mod Limits
pub mod Places
pub mod ReadRows
pub mod Reading
pub mod Telling
