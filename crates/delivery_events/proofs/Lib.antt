pub mod HeldAt
pub mod Letters
pub mod Named
pub mod Handing
pub mod Offered
