-- How the rows of one snapshot become those of another: which go, which come and which stay.
use Rattle.std.specs.Prelude.{◌≡◌, ◌≤◌, ◌==◌, ◌+◌, ℕ, pos, List, [], ◌∷◌, ◌++◌, drop, map, length, if◌then◌else◌, string_bytes, IsPermutation}
use Rattle.position_core.specs.TopicName.{topic_text}
use Rattle.sqlite.specs.declared.types.Value.TheVariants.{Int, Text as Words}
use Rattle.sqlite.specs.Order.{Row}
use Rattle.delivery_machine.specs.State.{Author}
use Rattle.delivery_machine.specs.Places.{KeptTopic}
use Rattle.row_forms.specs.declared.change.SubRow.{SubRow}
use Rattle.row_forms.specs.declared.change.AckRow.{AckRow}
use Rattle.row_forms.specs.declared.change.DeadRow.{DeadRow}
use Rattle.row_forms.specs.declared.change.CountRow.{CountRow}
use Rattle.row_forms.specs.declared.change.RetentionRow.{RetentionRow}
use Rattle.row_forms.specs.declared.change.Change.{Change}
use Rattle.row_forms.specs.Cells.{not_below}
use Rattle.row_forms.specs.Places.{number_of}
use Rattle.row_forms.specs.Forms.{TopicRows, author_row, entry_rows, kind_number, topic_row}

-- ---- the cells of a row that goes or comes

abbrev pub sub_cells : List ℕ → SubRow → Row
sub_cells topic sub = Words topic ∷ Words sub.name ∷ Int (pos (kind_number sub.kind)) ∷ []

abbrev pub ack_cells : List ℕ → AckRow → Row
ack_cells topic ack = Words topic ∷ Words ack.sub ∷ Int (pos (number_of ack.first)) ∷ Int (pos (number_of ack.last)) ∷ []

abbrev pub dead_cells : List ℕ → DeadRow → Row
dead_cells topic dead =
    Words topic ∷ Words dead.sub ∷ Int (pos dead.ordinal) ∷ Int (pos (number_of dead.place)) ∷ Words (string_bytes dead.target) ∷ []

abbrev pub count_cells : List ℕ → CountRow → Row
count_cells topic count = Words topic ∷ Words count.sub ∷ Int (pos (number_of count.place)) ∷ Int (pos count.times) ∷ []

abbrev pub author_cells : List ℕ → Author → Row
author_cells = author_row

abbrev pub retention_cells : List ℕ → RetentionRow → Row
retention_cells topic row = Words topic ∷ Int (pos row.gone) ∷ Int (pos row.kind) ∷ Int (pos row.amount) ∷ []

-- ---- from the old rows to the new ones

-- some rows stay: the old ones are they and those that go, the new ones they and those that come
abbrev pub IsDifference : List Row → List Row → List Row → List Row → Type 0
IsDifference olds news gone more = (stay : List Row) × IsPermutation (gone ++ stay) olds × IsPermutation (more ++ stay) news

-- the change makes the old rows those new ones
pub record Leads (kept : KeptTopic) (change : Change) (old new : TopicRows) : Type 0 where
  pub topics : new.topics ≡ (if change.topic then topic_row kept ∷ [] else old.topics)
  pub from : change.from ≤ length kept.log
  pub went : change.went ≤ kept.gone
  pub entries : new.entries ≡ (if change.went == 0 then old.entries else not_below kept.gone old.entries) ++ entry_rows (topic_text kept.name) (kept.gone + change.from) (drop change.from kept.log)
  pub subs : IsDifference old.subs new.subs (map (sub_cells (topic_text kept.name)) change.subs.gone.items) (map (sub_cells (topic_text kept.name)) change.subs.news.items)
  pub acks : IsDifference old.acks new.acks (map (ack_cells (topic_text kept.name)) change.acks.gone.items) (map (ack_cells (topic_text kept.name)) change.acks.news.items)
  pub deads : IsDifference old.deads new.deads (map (dead_cells (topic_text kept.name)) change.deads.gone.items) (map (dead_cells (topic_text kept.name)) change.deads.news.items)
  pub counts : IsDifference old.counts new.counts (map (count_cells (topic_text kept.name)) change.counts.gone.items) (map (count_cells (topic_text kept.name)) change.counts.news.items)
  pub authors : IsDifference old.authors new.authors (map (author_cells (topic_text kept.name)) change.authors.gone.items) (map (author_cells (topic_text kept.name)) change.authors.news.items)
  pub retentions : IsDifference old.retentions new.retentions (map (retention_cells (topic_text kept.name)) change.retentions.gone.items) (map (retention_cells (topic_text kept.name)) change.retentions.news.items)
