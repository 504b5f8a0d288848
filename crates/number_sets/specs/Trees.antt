-- What a tournament has at its leaves.
use Rattle.std.specs.Prelude.{ℕ, Bool, nat_lt, vec_len}
use Rattle.number_sets.specs.declared.node.Node.{Node}
use Rattle.number_sets.specs.declared.tournament.Tournament.{Tournament}
use Rattle.number_sets.specs.Nodes.{leaf_at}

abbrev pub leaf_of : Tournament → ℕ → Node
leaf_of t k = leaf_at t.nodes.items k

-- leaves can be put in
abbrev pub has_room : Tournament → Bool
has_room t = nat_lt 0 (vec_len t.nodes)
