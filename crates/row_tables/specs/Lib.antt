-- What the contracts of the tables cite: a database that is ready, what a call makes of its tables, the order in which rows are read, messages in pieces,
-- and the rows beside them.
pub mod Ready
pub mod Goes
pub mod Ordered
pub mod Pieces
pub mod Sides
