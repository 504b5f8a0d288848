pub mod Mapped
pub mod Waiting
pub mod Pending
pub mod Seen
pub mod Forgotten
pub mod Acknowledged
pub mod Changing
pub mod Held
pub mod Leaves
pub mod Sought
pub mod Gone
mod Examples
