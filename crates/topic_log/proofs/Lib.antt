pub mod Writers
pub mod Told
pub mod Remembering
pub mod Restored
pub mod Forgetting
pub mod Gaps
pub mod Free
pub mod Earlier
mod Examples
