use Rattle.std.proofs.Common.{◌≡◌, ◌++◌, ◌+◌, List, length}
use Rattle.delivery_machine.specs.State.{Author}
use Rattle.row_forms.specs.Parts.{ExtendsByAuthors}
use Rattle.row_forms.proofs.author_difference.author_difference.Given as goal

abbrev pub invariant-sides : goal.invariant-sides
invariant-sides l =
    (olds : List Author) × (news : List Author) × (olds ++ l.walk.olds.now ≡ l.olds) × (news ++ l.walk.news.now ≡ l.news) × ExtendsByAuthors olds news l.initial.difference l.difference

abbrev pub decreases-sides : goal.decreases-sides
decreases-sides l = length l.walk.olds.now + length l.walk.news.now
