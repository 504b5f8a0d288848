pub mod Members
pub mod Due
pub mod Turn
pub mod Keyed
