pub mod Standings
pub mod Written
pub mod LinesLemmas
pub mod Steps
pub mod Taking
pub mod Endings
