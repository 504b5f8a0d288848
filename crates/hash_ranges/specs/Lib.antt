pub mod Codes
pub mod Ends
pub mod Tables
