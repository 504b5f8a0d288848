pub mod Listed
pub mod Recounted
pub mod Emptied
pub mod Due
pub mod Answered
pub mod Rewound
pub mod Held
pub mod Deaths
mod Examples
