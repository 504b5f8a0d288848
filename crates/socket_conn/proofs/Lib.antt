pub mod TalksLemmas
pub mod CloseLemmas
pub mod HeadsLemmas
pub mod ShakesLemmas
mod HeldLemmas
mod FramesLemmas
mod FramedLemmas
