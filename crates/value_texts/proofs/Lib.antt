pub mod Varint
pub mod Ids
pub mod TopicNames
pub mod LastDigits
pub mod HashTexts
pub mod RangesTold
