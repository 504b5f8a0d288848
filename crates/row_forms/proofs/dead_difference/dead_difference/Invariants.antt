use Rattle.std.proofs.Common.{◌≡◌, ◌++◌, ◌+◌, List, length}
use Rattle.delivery_machine.specs.Places.{KeptPlaces}
use Rattle.row_forms.specs.Places.{seen}
use Rattle.row_forms.specs.Parts.{ExtendsByDeads}
use Rattle.row_forms.proofs.dead_difference.dead_difference.Given as goal

abbrev pub invariant-sides : goal.invariant-sides
invariant-sides l =
    (olds : List KeptPlaces) × (news : List KeptPlaces) × (olds ++ l.walk.olds.now ≡ l.olds) × (news ++ l.walk.news.now ≡ l.news)
    × ExtendsByDeads (seen l.logs.was) (seen l.logs.now) olds news l.initial.difference l.difference

abbrev pub decreases-sides : goal.decreases-sides
decreases-sides l = length l.walk.olds.now + length l.walk.news.now
