pub mod Grown
pub mod Safe
pub mod SameLog
