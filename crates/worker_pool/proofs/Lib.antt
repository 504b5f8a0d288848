-- Lemmas on what a response is.
pub mod Said
