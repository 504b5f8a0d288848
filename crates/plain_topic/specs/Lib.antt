pub mod StateOf
pub mod Names
pub mod Letters
