-- What follows from the definitions.
mod Silences
