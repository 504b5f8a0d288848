-- What the contracts of seeks and skips cite.
pub mod Live
