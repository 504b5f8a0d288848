use Rattle.std.proofs.Common.{◌≡◌, ◌++◌, ◌+◌, List, length}
use Rattle.delivery_machine.specs.Places.{KeptPlaces}
use Rattle.row_forms.specs.Parts.{AcksDiffer}
use Rattle.row_forms.proofs.ack_difference.ack_difference.Given as goal

abbrev pub invariant-sides : goal.invariant-sides
invariant-sides l =
    (olds : List KeptPlaces) × (news : List KeptPlaces) × (olds ++ l.walk.olds.now ≡ l.olds) × (news ++ l.walk.news.now ≡ l.news) × AcksDiffer l.gone.was l.gone.now olds news l.difference

abbrev pub decreases-sides : goal.decreases-sides
decreases-sides l = length l.walk.olds.now + length l.walk.news.now
