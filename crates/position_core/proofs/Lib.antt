pub mod SamePairs
pub mod RangesInOrder
