use Rattle.std.proofs.Common.{take}
use Rattle.plain_lists.specs.Places.{ArePlacesOf}
use Rattle.plain_lists.proofs.places.places_of.Given as goal

abbrev pub invariant-each : goal.invariant-each
invariant-each l = ArePlacesOf (take l.i l.log) l.positions l.places
