-- What the contracts of rounds cite: what a round writes of each topic, and the rows of runs that it writes side by side.
pub mod Rounds
pub mod Runs
