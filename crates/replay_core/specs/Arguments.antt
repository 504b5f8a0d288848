-- The arguments of the program.
use Rattle.std.specs.Prelude.{◌≡◌, ℕ, List, [], ◌∷◌, codes}
use Rattle.replay_lines.specs.Numbers.{IsBetween}
use Rattle.replay_core.specs.declared.arguments.Form.{Form}
use Rattle.replay_core.specs.declared.arguments.Form.TheVariants.{Plain, Fast}

-- the argument names the form
abbrev pub Names : List ℕ → Form → Type 0
Names argument Plain = argument ≡ codes "plain"
Names argument Fast = argument ≡ codes "fast"

-- the arguments ask for ledgers of so many entries: 50,000 where there is none
abbrev pub AskFor : List (List ℕ) → ℕ → Type 0
AskFor [] size = size ≡ 50000
AskFor (argument ∷ []) size = IsBetween 1 50000 argument size
AskFor (argument ∷ other ∷ arguments) size = ⊥
