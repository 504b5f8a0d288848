-- A table kept as a list of entries.
use Rattle.std.specs.Prelude.{Bool, true, not, ◌&&◌, List, [], ◌∷◌}
use Rattle.std.specs.List.{list_any}
use Rattle.position_core.specs.declared.position.Position.{Position}
use Rattle.position_core.specs.Position.{same_position}

-- no position stands twice
abbrev pub is_keyed : {X : Type 0} → List (Position × X) → Bool
is_keyed [] = true
is_keyed (e ∷ es) = not (list_any (λ x. same_position e.0 x.0) es) && is_keyed es
