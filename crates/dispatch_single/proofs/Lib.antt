pub mod InLine
pub mod Serves
pub mod Joining
pub mod Leaving
pub mod Agreeing
