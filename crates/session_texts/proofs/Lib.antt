pub mod Told
mod Examples
