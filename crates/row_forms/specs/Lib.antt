-- What the contracts of rows cite: the tables, the rows of a topic, where they stand, and how they change.
pub mod Schema
pub mod Cells
pub mod Properties
pub mod Forms
pub mod Places
pub mod Standing
pub mod Changes
pub mod Sides
pub mod Parts
