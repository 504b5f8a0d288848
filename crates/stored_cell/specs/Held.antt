-- A topic with its journal and with what of it is stored, and why what it calls durable, or safe to be moved, is stored.
use Rattle.std.specs.Prelude.{◌≡◌, ℕ, ◌≤◌, ◌+◌, ◌-◌, ◌⊎◌, ◌++◌, Bool, true, false, List, [], ◌∷◌, Option, None, Some, IfSome, IsSome, MatchOption, length, drop, All, Contains}
use mathlib.Core.List.{IsPrefix}
use Rattle.delivery_machine.specs.State.{State, fresh}
use Rattle.delivery_machine.specs.Places.{KeptTopic, snapshot_in}
use Rattle.delivery_machine.specs.Snapshot.{snapshot_of}
use Rattle.delivery_machine.specs.Laws.{IsReached}
use Rattle.dead_letters.specs.Letters.{dead_of, safe_of, dead_in}
use Rattle.topic_shared.specs.Lines.{Line, Legal}
use Rattle.topic_shared.specs.Kept.{Kept, IsVacant}
use Rattle.stored_cell.specs.Noted.{Noted, IsOfNow, IsOfView, IsStored, marked}

-- `stored` is the snapshot that was confirmed last, with rows that were committed; `outstanding`, the one that was viewed
-- last, if it was not confirmed; `by_word`, whether more may be durable, or safe, than was confirmed, by the word of a caller
-- alone
pub record Held : Type 0 where
  pub cell : Kept
  pub stored : Option Noted
  pub outstanding : Option KeptTopic
  pub by_word : Bool

-- it is kept of this topic, whose log begins with what of the kept one has not gone since, and events alone led from it to here
pub record IsBeginning (s : State) (kept : KeptTopic) : Type 0 where
  pub name : kept.name ≡ s.name
  pub gone : kept.gone ≤ s.gone
  pub log : IsPrefix (drop (s.gone - kept.gone) kept.log) s.log
  pub events : (first : State) × (lines : List Line) × IsOfView first kept × Legal first lines s

-- each letter that is safe to be moved, of whatever subscription, is among the dead letters that are kept of that subscription
abbrev pub KeepsSafe : State → KeptTopic → Type 0
KeepsSafe s kept = (name : List ℕ) → All (Contains (dead_in (snapshot_in kept) name)) (safe_of s name)

-- the topic gives no ordinal below the next one of what is kept, and each dead letter with an ordinal below that one is kept
pub record KeepsLetters (s : State) (kept : KeptTopic) : Type 0 where
  pub next : kept.next_ordinal ≤ s.next_ordinal
  pub letters : (name : List ℕ) → All (λ d. Contains (dead_in (snapshot_in kept) name) d ⊎ kept.next_ordinal ≤ d.ordinal) (dead_of s name)

-- all that is durable, whether it is gone since or not, and each letter that is safe, is in what is kept of the topic, and that stands
-- in rows that were committed
pub record IsProof (s : State) (n : Noted) : Type 0 where
  pub kept : IsBeginning s n.kept
  pub durable : s.gone + s.durable ≤ n.kept.gone + length n.kept.log
  pub safe : KeepsSafe s n.kept
  pub stored : IsStored n

-- nothing is durable, and no letter is safe
pub record HasNoneStored (s : State) : Type 0 where
  pub durable : s.gone + s.durable ≡ 0
  pub safe : (name : List ℕ) → safe_of s name ≡ []

-- what is durable, and each letter that is safe, stands in rows that were committed, but for what a caller's word made so
abbrev pub IsDurable : Held → Type 0
IsDurable h = h.by_word ≡ false → MatchOption h.stored (HasNoneStored h.cell.state) (IsProof h.cell.state)

-- nothing was ever asked of the topic that a snapshot shows
abbrev pub HasNothing : State → Type 0
HasNothing s = snapshot_of s ≡ snapshot_of (fresh s.name s.ledger_size)

-- nobody is connected, nothing that was viewed is to be confirmed, and what was confirmed last is the topic as it is, or there is
-- nothing in it; all that by proof
pub record IsAtRest (h : Held) : Type 0 where
  pub vacant : IsVacant h.cell.state
  pub by_proof : h.by_word ≡ false
  pub confirmed : h.outstanding ≡ None
  pub saved : h.cell.unsaved ≡ false
  pub rows : MatchOption h.stored (HasNothing h.cell.state) (λ n. IsOfNow h.cell.state n.kept)

-- what every such cell keeps
pub record IsSound (h : Held) : Type 0 where
  -- a run comes to its state
  pub reached : IsReached h.cell.state
  pub stored : IfSome h.stored (λ n. IsBeginning h.cell.state n.kept × IsStored n)
  pub durable : IsDurable h
  pub outstanding : IfSome h.outstanding (IsBeginning h.cell.state)
  pub within : h.by_word ≡ false → IfSome h.outstanding (λ kept. (h.cell.state.gone + h.cell.state.durable ≤ kept.gone + length kept.log) × KeepsSafe h.cell.state kept)
  pub letters : IfSome h.outstanding (KeepsLetters h.cell.state)
  pub promised : IsSome h.outstanding → h.cell.promised ≡ true
  -- what is outstanding is kept of the last view, and where nothing is, what was stored last is
  pub views : IfSome h.outstanding (λ kept. snapshot_in kept ≡ snapshot_of h.cell.viewed)
  pub stores_view : h.by_word ≡ false → h.outstanding ≡ None → IfSome h.stored (λ n. IsOfView h.cell.viewed n.kept)
  -- and where nothing was, none was viewed
  pub views_none : h.by_word ≡ false → h.outstanding ≡ None → h.stored ≡ None → h.cell.viewed ≡ fresh h.cell.viewed.name h.cell.viewed.ledger_size

-- what a snapshot of the topic goes on from: the snapshot that was confirmed last, and the one that is outstanding
abbrev pub outstanding_in : Option KeptTopic → List KeptTopic
outstanding_in None = []
outstanding_in (Some kept) = kept ∷ []

abbrev pub bases_of : Held → List KeptTopic
bases_of h = marked h.stored ++ outstanding_in h.outstanding

-- the same, but for the lines that the cell keeps for itself
abbrev pub SameButPromise : Held → Held → Type 0
SameButPromise g h = h ≡ record g { cell = record g.cell { own_line = h.cell.own_line; promised = h.cell.promised } }
