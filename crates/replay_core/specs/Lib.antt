pub mod Lines
pub mod Arguments
pub mod Printing
pub mod Replay
pub mod Stops
-- for private functions
pub mod Answering
pub mod Output
pub mod Outcomes
pub mod Progress
