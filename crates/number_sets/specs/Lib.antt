-- What the contracts of sets of places and of the first numbers of hashes cite.
pub mod Bits
pub mod Places
pub mod Nodes
pub mod Trees
pub mod Firsts
