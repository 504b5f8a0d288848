-- The rows of a topic beside its messages, as they are read.
use Rattle.std.specs.Prelude.{List, ℕ}
use Rattle.sqlite.specs.Tree.{Trees}
use Rattle.row_forms.specs.Cells.{TOPIC, SUB, ACK, DEAD, REDELIVERY, AUTHOR, RETENTION}
use Rattle.row_tables.specs.declared.side_rows.SideRows.{SideRows}
use Rattle.row_tables.specs.Goes.{Shows}
use Rattle.row_tables.specs.Ordered.{AreSortedBy}

-- these are the topic's rows in all tables but that of its messages
pub record AreSidesOf (topic : List ℕ) (db : Trees) (sides : SideRows) : Type 0 where
  pub topics : Shows TOPIC topic sides.topics.items db
  pub subs : Shows SUB topic sides.subs.items db
  pub acks : Shows ACK topic sides.acks.items db
  pub deads : Shows DEAD topic sides.deads.items db
  pub counts : Shows REDELIVERY topic sides.counts.items db
  pub authors : Shows AUTHOR topic sides.authors.items db
  pub retentions : Shows RETENTION topic sides.retentions.items db

-- subscriptions stand in the order of their names, the other rows of names and then of first places, ordinals or places, producers of their last places
pub record AreSorted (sides : SideRows) : Type 0 where
  pub subs : AreSortedBy 1 sides.subs.items
  pub acks : AreSortedBy 2 sides.acks.items
  pub deads : AreSortedBy 2 sides.deads.items
  pub counts : AreSortedBy 2 sides.counts.items
  pub authors : AreSortedBy 1 sides.authors.items
