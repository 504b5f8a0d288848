use Rattle.row_store.proofs.Lists.{AreApartBelow}
use Rattle.row_store.proofs.planning.are_apart.Given as goal

abbrev pub invariant-loop-place : goal.invariant-loop-place
invariant-loop-place l = AreApartBelow l.writes l.place
