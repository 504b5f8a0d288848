pub mod Splitting
pub mod Reads
pub mod Numbers
pub mod Names
pub mod Payloads
pub mod Grammar
