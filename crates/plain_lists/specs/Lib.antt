pub mod Codes
pub mod Members
pub mod Auto
pub mod Letters
pub mod Raised
pub mod Keyed
pub mod Counted
pub mod Places
