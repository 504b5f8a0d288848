-- The names of producers that a topic knows.
use Rattle.std.specs.Prelude.{ℕ, List, ◌++◌, map}
use Rattle.delivery_machine.specs.State.{State}

-- the names of the connected producers, those that are remembered, and those of the producers of the log
abbrev pub names_used : State → List (List ℕ)
names_used s = map (λ p. p.name) s.producers ++ (map (λ a. a.name) s.authors ++ map (λ e. e.producer) s.log)
