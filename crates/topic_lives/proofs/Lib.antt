pub mod Couriers
pub mod MadeAgain
pub mod Left
pub mod Past
pub mod Acknowledged
pub mod TwoLives
pub mod CourierLeft
