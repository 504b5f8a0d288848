pub mod Members
pub mod Joined
