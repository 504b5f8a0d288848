pub mod Hashes
pub mod Owning
pub mod Tables
pub mod Agreeing
pub mod Resharing
