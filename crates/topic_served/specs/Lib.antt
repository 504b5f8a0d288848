-- What the contracts of the fast topic cite.
pub mod Served
pub mod Firsts
pub mod Trimming
pub mod Agreeing
pub mod Happening
pub mod Told
pub mod Stepping
pub mod Bare
