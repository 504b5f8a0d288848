-- A list of messages in pieces: segments of 1,024 messages, and the others, of which most are in runs of 32.
use Rattle.std.specs.Prelude.{◌≡◌, ℕ, ◌-◌, ◌≤◌, Bool, List, [], ◌∷◌, ◌++◌, length, map, take, drop, Option, ⊤}
use Rattle.std.specs.List.{flat_map, position}
use Rattle.position_core.specs.declared.position.Position.{Position}
use Rattle.position_core.specs.declared.message.Entry.{Entry}
use Rattle.position_core.specs.Position.{same_position}
use Rattle.log_pieces.specs.Times.{moment_after}

-- the messages that are in no segment
pub record Last : Type 0 where
  pub runs : List (List Entry)
  pub last : List Entry

abbrev pub loosely : Last → List Entry
loosely l = flat_map (λ s. s) l.runs ++ l.last

-- segments, the messages after them, and how many of the first messages went
pub record Parts : Type 0 where
  pub sealed : List (List Entry)
  pub loose : Last
  pub skipped : ℕ

-- all messages, those that went too
abbrev pub all_of : Parts → List Entry
all_of p = flat_map (λ s. s) p.sealed ++ loosely p.loose

abbrev pub joined : Parts → List Entry
joined p = drop p.skipped (all_of p)

-- each has so many messages
abbrev pub AreEach : ℕ → List (List Entry) → Type 0
AreEach size [] = ⊤
AreEach size (segment ∷ segments) = (length segment ≡ size) × AreEach size segments

pub record AreLast (l : Last) : Type 0 where
  pub runs : AreEach 32 l.runs
  pub few : length l.runs ≤ 31
  pub rest : length l.last ≤ 32

-- beside each segment stands the first moment after its messages, and no more messages went than there were
pub record ArePieces (p : Parts) (after : List ℕ) : Type 0 where
  pub segments : AreEach 1024 p.sealed
  pub few : length p.sealed ≤ 1024
  pub moments : after ≡ map (moment_after 0) p.sealed
  pub within : p.skipped ≤ length (all_of p)

-- without its last message
abbrev pub front : List Entry → List Entry
front log = take (length log - 1) log

-- the message has the position
abbrev pub stands_at : Position → Entry → Bool
stands_at at e = same_position e.position at

-- the index of the message at the position
abbrev pub index_of : Position → List Entry → Option ℕ
index_of at log = position (stands_at at) log
