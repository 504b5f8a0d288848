pub mod Replies
pub mod Cells
pub mod AllHere
pub mod Crosses
pub mod Legality
pub mod Answered
