-- What the contracts of events of deliveries cite.
pub mod Moving
pub mod Handing
