pub mod Written
pub mod Names
pub mod Publishing
pub mod Trimming
