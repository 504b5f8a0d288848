-- Rows tell one snapshot.
use Rattle.std.specs.Prelude.{◌≡◌, IsPermutation}
use Rattle.std.specs.List.{All}
use Rattle.sqlite.specs.Tree.{Trees}
use Rattle.delivery_machine.specs.State.{DeadLetter}
use Rattle.delivery_machine.specs.Places.{KeptPlaces, KeptTopic, MayRestart}
use Rattle.row_forms.specs.Forms.{AreRowsOf, TopicRows}
use Rattle.row_forms.specs.Standing.{Stands}
use Rattle.row_reading.specs.Reading.{IsNamed}

-- the topics that the dead letters go to have names
abbrev pub NamesTargets : KeptTopic → Type 0
NamesTargets kept = All (λ (sub : KeptPlaces). All (λ (d : DeadLetter). IsNamed d.target) sub.dead) kept.subscriptions

-- the same rows, each table's in any order
pub record SameRows (rows others : TopicRows) : Type 0 where
  pub topics : IsPermutation rows.topics others.topics
  pub entries : IsPermutation rows.entries others.entries
  pub subs : IsPermutation rows.subs others.subs
  pub acks : IsPermutation rows.acks others.acks
  pub deads : IsPermutation rows.deads others.deads
  pub counts : IsPermutation rows.counts others.counts
  pub authors : IsPermutation rows.authors others.authors
  pub retentions : IsPermutation rows.retentions others.retentions

-- a topic may go on from the snapshot, and the topics that its dead letters go to have names, so that rows tell them
pub record IsTold (kept : KeptTopic) : Type 0 where
  pub may : MayRestart kept
  pub targets : NamesTargets kept

-- two snapshots of one topic with the same rows, in any order, are one
abbrev pub RowsTellOne : Type 0
RowsTellOne = (a b : KeptTopic) (rows others : TopicRows) → IsTold a → IsTold b → a.name ≡ b.name → AreRowsOf a rows → AreRowsOf b others → SameRows rows others → a ≡ b

-- two snapshots of one topic that stand in one database are one
abbrev pub OneStands : Type 0
OneStands = (a b : KeptTopic) (db : Trees) → IsTold a → IsTold b → a.name ≡ b.name → Stands a db → Stands b db → a ≡ b
