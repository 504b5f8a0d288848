-- The order of rows by their keys. Each row begins with its topic's text.
use Rattle.std.specs.Prelude.{◌≡◌, ◌<◌, ◌⊎◌, ℕ, pos, negsuc, List, [], ◌∷◌}
use Rattle.std.specs.List.{AllByRecursion}
use Rattle.std.specs.declared.cmp.Ordering.TheVariants.{Less}
use Rattle.sqlite.specs.declared.types.Value.{Value}
use Rattle.sqlite.specs.declared.types.Value.TheVariants.{Null, Int, Real, Text as Words, Blob as Octets}
use Rattle.sqlite.specs.Order.{Row, bytes, column}
use Rattle.sqlite.specs.Tree.{Trees}
use Rattle.position_core.specs.Name.{name_order}
use Rattle.position_core.specs.TopicName.{topic_text}
use Rattle.delivery_machine.specs.Places.{KeptTopic}
use Rattle.row_forms.specs.Forms.{AreRowsOf, TopicRows}
use Rattle.row_forms.specs.Standing.{Has, Stands}
use Rattle.row_reading.specs.Telling.{IsTold}

-- each is below those after it
abbrev pub InOrder : {A : Type 0} → (A → A → Type 0) → List A → Type 0
InOrder R [] = Unit {0}
InOrder R (x ∷ xs) = AllByRecursion (R x) xs × InOrder R xs

-- the whole number that a value is; 0 where it is none
abbrev pub whole_of : Value → ℕ
whole_of Null = 0
whole_of (Int (pos n)) = n
whole_of (Int (negsuc n)) = 0
whole_of (Real x) = 0
whole_of (Words t) = 0
whole_of (Octets b) = 0

-- the name in a row's second column
abbrev pub name_in : Row → List ℕ
name_in r = bytes (column r 1)

-- the row's place is below the other's
abbrev pub BelowByPlace : Row → Row → Type 0
BelowByPlace r s = whole_of (column r 1) < whole_of (column s 1)

-- the row's name is below the other's
abbrev pub BelowByName : Row → Row → Type 0
BelowByName r s = name_order (name_in r) (name_in s) ≡ Less

-- the row's name is below the other's, or it is the same and the row's number is below
abbrev pub BelowByNumber : Row → Row → Type 0
BelowByNumber r s = (name_order (name_in r) (name_in s) ≡ Less) ⊎ ((name_in r ≡ name_in s) × (whole_of (column r 2) < whole_of (column s 2)))

-- messages and producers stand in the order of their places, subscriptions of their names; runs, dead letters and counts of both
pub record InKeyOrder (rows : TopicRows) : Type 0 where
  pub entries : InOrder BelowByPlace rows.entries
  pub subs : InOrder BelowByName rows.subs
  pub acks : InOrder BelowByNumber rows.acks
  pub deads : InOrder BelowByNumber rows.deads
  pub counts : InOrder BelowByNumber rows.counts
  pub authors : InOrder BelowByPlace rows.authors

-- what stands of a topic in a database is, in the order of its keys, the rows of the snapshot
abbrev pub InOrderAreIts : Type 0
InOrderAreIts = (kept : KeptTopic) (rows : TopicRows) (db : Trees) → IsTold kept → Stands kept db → Has (topic_text kept.name) rows db → InKeyOrder rows → AreRowsOf kept rows
