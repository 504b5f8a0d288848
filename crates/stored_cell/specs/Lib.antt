-- What the contracts of stored snapshots and cells cite.
pub mod Noted
pub mod Held
pub mod Opening
