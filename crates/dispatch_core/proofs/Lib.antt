pub mod Line
pub mod Ready
pub mod Reduced
pub mod Telling
