-- Changes table by table: what goes and what comes makes the old subscriptions' rows those of the new ones.
use Rattle.std.specs.Prelude.{◌≡◌, ◌≤◌, ◌+◌, ◌-◌, ℕ, drop, length, List, [], ◌∷◌, ◌++◌, Option, Some, None, map, All, IsTrue}
use Rattle.std.specs.FinMap as map_of
use Rattle.std.specs.List.Sorted.{IsStrictlySortedBy}
use Rattle.sqlite.specs.Order.{Row}
use Rattle.position_core.specs.declared.message.Entry.{Entry}
use Rattle.position_core.specs.declared.position.Position.{Position}
use Rattle.position_core.specs.Position.{position_cmp}
use Rattle.delivery_machine.specs.State.{Author, DeadLetter}
use Rattle.delivery_machine.specs.Places.{KeptPlaces}
use Rattle.delivery_machine.specs.WellFormed.{has_message}
use Rattle.row_forms.specs.declared.change.SubRow.{SubRow}
use Rattle.row_forms.specs.declared.change.AckRow.{AckRow}
use Rattle.row_forms.specs.declared.change.DeadRow.{DeadRow}
use Rattle.row_forms.specs.declared.change.CountRow.{CountRow}
use Rattle.row_forms.specs.declared.change.RetentionRow.{RetentionRow}
use Rattle.row_forms.specs.declared.change.Difference.{Difference}
use Rattle.row_forms.specs.Forms.{AreAckRows, Span, ack_row, author_rows, count_row, count_rows, dead_row, dead_rows, place_in, sub_rows}
use Rattle.row_forms.specs.Changes.{IsDifference, ack_cells, author_cells, count_cells, dead_cells, retention_cells, sub_cells}

-- the change that was `d` has become `e`: after the rows that it was for come those of the old things, and of the new ones
abbrev pub Extends : {A B : Type 0} → (List ℕ → A → Row) → (List ℕ → List B → List Row) → (List ℕ → List B → List Row) → List B → List B → Difference A → Difference A → Type 0
Extends cells was now olds news d e =
    (topic : List ℕ) (rows others : List Row) → IsDifference rows others (map (cells topic) d.gone.items) (map (cells topic) d.news.items)
    → IsDifference (rows ++ was topic olds) (others ++ now topic news) (map (cells topic) e.gone.items) (map (cells topic) e.news.items)

-- by subscriptions
abbrev pub ExtendsBySubs : List KeptPlaces → List KeptPlaces → Difference SubRow → Difference SubRow → Type 0
ExtendsBySubs = Extends sub_cells sub_rows sub_rows

-- by runs of one subscription, of which the old ones are of a log that so many messages were gone from
abbrev pub ExtendsByRuns : List ℕ → ℕ → ℕ → List (ℕ × ℕ) → List (ℕ × ℕ) → Difference AckRow → Difference AckRow → Type 0
ExtendsByRuns sub was now = Extends ack_cells (λ topic. map (ack_row topic sub was)) (λ topic. map (ack_row topic sub now))

-- by dead letters of one subscription, of which the old ones are of the log as it was
abbrev pub ExtendsByLetters : List ℕ → Span → Span → List DeadLetter → List DeadLetter → Difference DeadRow → Difference DeadRow → Type 0
ExtendsByLetters sub was now = Extends dead_cells (λ topic. map (dead_row topic sub was)) (λ topic. map (dead_row topic sub now))

-- by the dead letters of subscriptions
abbrev pub ExtendsByDeads : Span → Span → List KeptPlaces → List KeptPlaces → Difference DeadRow → Difference DeadRow → Type 0
ExtendsByDeads was now = Extends dead_cells (λ topic. dead_rows topic was) (λ topic. dead_rows topic now)

-- by counts of one subscription, of which the old ones are of the log as it was
abbrev pub ExtendsByEntries : List ℕ → Span → Span → List (Position × ℕ) → List (Position × ℕ) → Difference CountRow → Difference CountRow → Type 0
ExtendsByEntries sub was now = Extends count_cells (λ topic. map (count_row topic sub was)) (λ topic. map (count_row topic sub now))

-- by the counts of subscriptions
abbrev pub ExtendsByCounts : Span → Span → List KeptPlaces → List KeptPlaces → Difference CountRow → Difference CountRow → Type 0
ExtendsByCounts was now = Extends count_cells (λ topic. count_rows topic was) (λ topic. count_rows topic now)

-- by producers of messages that are gone
abbrev pub ExtendsByAuthors : List Author → List Author → Difference Author → Difference Author → Type 0
ExtendsByAuthors = Extends author_cells author_rows author_rows

-- the runs of subscriptions: whatever rows they had, there are rows of the new subscriptions that these become
abbrev pub AcksDiffer : ℕ → ℕ → List KeptPlaces → List KeptPlaces → Difference AckRow → Type 0
AcksDiffer was now olds news d =
    (topic : List ℕ) (rows : List Row) → AreAckRows topic was olds rows
    → (others : List Row) × AreAckRows topic now news others × IsDifference rows others (map (ack_cells topic) d.gone.items) (map (ack_cells topic) d.news.items)

-- the rows of producers
abbrev pub AuthorsDiffer : List Author → List Author → Difference Author → Type 0
AuthorsDiffer olds news d =
    (topic : List ℕ) → IsDifference (author_rows topic olds) (author_rows topic news) (map (author_cells topic) d.gone.items) (map (author_cells topic) d.news.items)

-- the row of what is gone and of the topic's own rule, if it has one
abbrev pub row_in : List ℕ → Option RetentionRow → List Row
row_in topic None = []
row_in topic (Some row) = retention_cells topic row ∷ []

abbrev pub listed : Option RetentionRow → List RetentionRow
listed None = []
listed (Some row) = row ∷ []

-- from one such row or none to another
abbrev pub RetentionsDiffer : Option RetentionRow → Option RetentionRow → Difference RetentionRow → Type 0
RetentionsDiffer old new d = (topic : List ℕ) → IsDifference (row_in topic old) (row_in topic new) (map (retention_cells topic) d.gone.items) (map (retention_cells topic) d.news.items)

-- the rows of subscriptions, and of their dead letters
abbrev pub SubsDiffer : List KeptPlaces → List KeptPlaces → Difference SubRow → Type 0
SubsDiffer olds news d = (topic : List ℕ) → IsDifference (sub_rows topic olds) (sub_rows topic news) (map (sub_cells topic) d.gone.items) (map (sub_cells topic) d.news.items)

abbrev pub DeadsDiffer : Span → Span → List KeptPlaces → List KeptPlaces → Difference DeadRow → Type 0
DeadsDiffer was now olds news d =
    (topic : List ℕ) → IsDifference (dead_rows topic was olds) (dead_rows topic now news) (map (dead_cells topic) d.gone.items) (map (dead_cells topic) d.news.items)

-- the counts of subscriptions
abbrev pub CountsDiffer : Span → Span → List KeptPlaces → List KeptPlaces → Difference CountRow → Type 0
CountsDiffer was now olds news d =
    (topic : List ℕ) → IsDifference (count_rows topic was olds) (count_rows topic now news) (map (count_cells topic) d.gone.items) (map (count_cells topic) d.news.items)

-- what is left to see of ranges of which the first was taken out
abbrev pub waiting : Option (ℕ × ℕ) → List (ℕ × ℕ) → List (ℕ × ℕ)
waiting None rest = []
waiting (Some run) rest = run ∷ rest

-- positions rise
abbrev pub IsRising : List Entry → Type 0
IsRising log = IsStrictlySortedBy position_cmp (map (λ e. e.position) log)

-- two dead letters have the same ordinal and target, and stand at the same place, each in its log
pub record IsSameLetter (was now : Span) (old new : DeadLetter) : Type 0 where
  pub ordinal : old.ordinal ≡ new.ordinal
  pub place : place_in was old.position ≡ place_in now new.position
  pub target : old.target ≡ new.target

-- the message that is counted is one of the log
abbrev pub IsCountedIn : List Entry → Position × ℕ → Type 0
IsCountedIn log counted = IsTrue (has_message log counted.0)

-- each message that is counted in the subscription is
abbrev pub AreCountedIn : List Entry → KeptPlaces → Type 0
AreCountedIn log sub = All (IsCountedIn log) (map_of.entries sub.counts)

-- some of the first messages went, but not the last one, and others came
pub record IsLater (was now : Span) : Type 0 where
  pub went : ℕ
  pub gone : now.gone ≡ was.gone + went
  pub stays : went ≤ length was.log - 1
  pub more : List Entry
  pub log : now.log ≡ drop went was.log ++ more
