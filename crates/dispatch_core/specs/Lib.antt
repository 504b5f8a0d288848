pub mod Log
pub mod Changes
pub mod Offers
pub mod Turn
pub mod Waiting
