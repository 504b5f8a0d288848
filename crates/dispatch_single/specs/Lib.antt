-- What the contracts of the dispatcher of Exclusive and Failover cite.
pub mod InOrder
