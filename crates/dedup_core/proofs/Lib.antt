mod Found
pub mod Agreed
pub mod Known
pub mod Remembering
mod Examples
