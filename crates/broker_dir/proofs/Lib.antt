-- Lemmas on the list of open topics, on what a lock guards, on answers across it, on looks, trims and weights, on a store that was
-- refused, and on what may go to another thread.
pub mod Crosses
pub mod Listed
pub mod Seats
pub mod Failing
pub mod Looked
pub mod Trims
pub mod Weighed
pub mod Answered
pub mod MayLeave
