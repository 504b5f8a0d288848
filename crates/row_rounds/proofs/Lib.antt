pub mod GoesLemmas
pub mod RowLemmas
pub mod TurnLemmas
pub mod ManyLemmas
pub mod RoomLemmas
