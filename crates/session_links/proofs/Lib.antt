pub mod Left
pub mod Looked
pub mod Times
pub mod Searched
pub mod Staying
