pub mod Ids
pub mod Peeked
pub mod PlainTexts
pub mod Returns
pub mod SeenPublishes
pub mod SeenCommands
