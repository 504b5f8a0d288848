-- What is sent: the longest beginning of what there is to be sent that is ready.
use Rattle.std.specs.Prelude.{◌≡◌, ℕ, ◌<◌, ◌≤◌, List, [], ◌∷◌, ◌++◌, map, All}
use Rattle.session_texts.specs.Unsent.{Unsent, IsTextOf, needs}

-- what was sent, with its text
pub record Gone : Type 0 where
  pub item : Unsent
  pub text : List ℕ

-- it was ready, and the text is its text
abbrev pub IsSent : ℕ → Gone → Type 0
IsSent durable gone = (needs gone.item ≤ durable) × IsTextOf gone.item gone.text

-- of all that there is to be sent, these texts are the beginning, each was ready with so many messages stored, and this is left
pub record Sends (durable : ℕ) (all : List Unsent) (sent : List (List ℕ)) (left : List Unsent) : Type 0 where
  pub gone : List Gone
  pub parts : map (λ (g : Gone). g.item) gone ++ left ≡ all
  pub texts : map (λ (g : Gone). g.text) gone ≡ sent
  pub ready : All (IsSent durable) gone

-- the first that is left is not ready
abbrev pub IsBlocked : ℕ → List Unsent → Type 0
IsBlocked durable [] = Unit {0}
IsBlocked durable (first ∷ more) = durable < needs first

-- something is left, and the first of it is ready
abbrev pub IsReady : ℕ → List Unsent → Type 0
IsReady durable [] = ⊥
IsReady durable (first ∷ more) = needs first ≤ durable
