-- What the contracts of the server cite.
pub mod Callers
pub mod Dated
pub mod Durable
pub mod Pages
pub mod Refusing
