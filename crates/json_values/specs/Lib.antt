pub mod Bytes
pub mod Escapes
pub mod Fields
pub mod Laws
pub mod Objects
pub mod Times
pub mod Written
