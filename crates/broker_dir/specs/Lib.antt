-- What the contracts of the directory cite.
pub mod Answering
pub mod Coming
pub mod Deleting
pub mod Expiring
pub mod Handing
pub mod Listing
pub mod Refusing
pub mod Seeing
pub mod Trimming
