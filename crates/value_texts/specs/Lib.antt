pub mod Id
pub mod Decimals
pub mod RangesText
