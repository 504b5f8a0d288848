pub mod Bulks
