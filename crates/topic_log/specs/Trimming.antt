-- What a topic knows of its producers after its first messages went.
use Rattle.std.specs.Prelude.{◌≡◌, ℕ, nat_lt, ◌||◌, List, [], ◌∷◌, take, drop, length, if◌then◌else◌}
use Rattle.std.specs.FinMap as map_of
use Rattle.position_core.specs.declared.message.Entry.{Entry}
use Rattle.delivery_machine.specs.State.{State, Author}
use Rattle.delivery_machine.specs.Trimming.{is_lasting, not_forgotten, with_authors}
use Rattle.dedup_core.specs.Sequences.{Numbers}
use Rattle.topic_log.specs.Written.{Written, written_in}

-- who is remembered, and the names that are as new
pub record Remembered : Type 0 where
  pub authors : List Author
  pub forgotten : List (List ℕ)

-- the names of the authors that are forgotten, where these messages stay
abbrev pub forgotten : State → List Entry → List Author → List (List ℕ)
forgotten s stay [] = []
forgotten s stay (a ∷ authors) =
    if nat_lt (length authors) 4096 || is_lasting s stay a.name then forgotten s stay authors else a.name ∷ forgotten s stay authors

-- of these authors some are remembered where these messages stay, and the others are forgotten
pub record AreSorted (w : Written) (stay : List Entry) (authors : List Author) (r : Remembered) : Type 0 where
  pub remembered : (s : State) → r.authors ≡ not_forgotten (written_in w s) stay authors
  pub others : (s : State) → r.forgotten ≡ forgotten (written_in w s) stay authors

-- so it is where the first messages go, so many
abbrev pub IsRemembered : Written → ℕ → Remembered → Type 0
IsRemembered w count r = AreSorted w (drop count w.log.log) (with_authors w.gone (take count w.log.log) w.authors) r

-- the names have no numbers any more
abbrev pub without_names : List (List ℕ) → Numbers → Numbers
without_names [] numbers = numbers
without_names (name ∷ names) numbers = map_of.remove (without_names names numbers) name
