use Rattle.std.proofs.Common.{◌≡◌, ◌++◌, ◌+◌, ℕ, List, length}
use Rattle.row_forms.specs.Parts.{ExtendsByRuns, waiting}
use Rattle.row_forms.proofs.ack_difference.add_runs.Given as goal

abbrev pub invariant-sides : goal.invariant-sides
invariant-sides l =
    (olds : List (ℕ × ℕ)) × (news : List (ℕ × ℕ)) × (olds ++ waiting l.runs.left l.runs.lefts ≡ waiting l.initial.runs.left l.initial.runs.lefts)
    × (news ++ waiting l.runs.right l.runs.rights ≡ waiting l.initial.runs.right l.initial.runs.rights) × ExtendsByRuns l.sub l.initial.runs.gone.was l.initial.runs.gone.now olds news l.initial.difference l.difference

abbrev pub decreases-sides : goal.decreases-sides
decreases-sides l = length (waiting l.runs.left l.runs.lefts) + length (waiting l.runs.right l.runs.rights)
