pub mod Sequences
pub mod Names
