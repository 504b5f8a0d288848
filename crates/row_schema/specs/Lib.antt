-- What the contracts of the schema cite: the versions, what a CREATE makes of a database, how one version becomes the next, and what is tested of a table.
pub mod Versions
pub mod Making
pub mod Upgrading
pub mod Comparing
