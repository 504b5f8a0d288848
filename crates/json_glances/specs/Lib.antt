pub mod Glances
pub mod Objects
