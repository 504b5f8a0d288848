-- What the contracts of events of messages cite.
pub mod Consumers
