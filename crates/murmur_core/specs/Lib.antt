pub mod Murmur
pub mod Sticky
