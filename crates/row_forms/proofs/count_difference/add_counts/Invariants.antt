use Rattle.std.proofs.Common.{◌≡◌, ◌++◌, ◌+◌, List, length, map}
use Rattle.delivery_machine.specs.declared.counts.Counted.{Counted}
use Rattle.row_forms.specs.Places.{seen}
use Rattle.row_forms.specs.Parts.{ExtendsByEntries}
use Rattle.row_forms.proofs.Counts.{entry_of}
use Rattle.row_forms.proofs.count_difference.add_counts.Given as goal

abbrev pub invariant-sides : goal.invariant-sides
invariant-sides l =
    (olds : List Counted) × (news : List Counted) × (olds ++ l.walk.olds.now ≡ l.olds) × (news ++ l.walk.news.now ≡ l.news)
    × ExtendsByEntries l.sub (seen l.logs.was) (seen l.logs.now) (map entry_of olds) (map entry_of news) l.initial.difference l.difference

abbrev pub decreases-sides : goal.decreases-sides
decreases-sides l = length l.walk.olds.now + length l.walk.news.now
