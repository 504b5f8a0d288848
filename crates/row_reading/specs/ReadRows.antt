-- What stands of a topic is what is read of it.
use Rattle.std.specs.Prelude.{◌≡◌, ◌≤◌, ◌+◌, ◌-◌, ℕ, List, length, take, drop, false}
use Rattle.sqlite.specs.Order.{Row}
use Rattle.sqlite.specs.Tree.{Trees}
use Rattle.position_core.specs.TopicName.{topic_text}
use Rattle.delivery_machine.specs.Places.{KeptTopic}
use Rattle.row_forms.specs.Forms.{AreRowsOf, entry_rows, span_of}
use Rattle.row_forms.specs.Standing.{Stands}
use Rattle.row_tables.specs.declared.side_rows.SideRows.{SideRows}
use Rattle.row_tables.specs.Ordered.{AreSortedBy}
use Rattle.row_tables.specs.Pieces.{ShowsWithin, has_others}
use Rattle.row_tables.specs.Sides.{AreSidesOf, AreSorted}
use Rattle.row_reading.specs.Reading.{put, rows_with}
use Rattle.row_reading.specs.Telling.{IsTold}

-- what is read in the order of keys is the snapshot's: each piece of the messages is that piece of its log, none stands before
-- or beyond the log, and the rows beside them are its own
pub record IsWhatIsRead (kept : KeptTopic) (topic : List ℕ) (db : Trees) : Type 0 where
  pub pieces : (from end : ℕ) (rows : List Row) → kept.gone ≤ from → from ≤ end → ShowsWithin topic from end rows db → AreSortedBy 1 rows → put topic rows ≡ entry_rows topic from (take (end - from) (drop (from - kept.gone) kept.log))
  pub others : (from end : ℕ) → from ≤ kept.gone → kept.gone + length kept.log ≤ end → has_others topic from end db ≡ false
  pub sides : (sides : SideRows) → AreSidesOf topic db sides → AreSorted sides → AreRowsOf kept (rows_with topic (span_of kept) sides)

-- where a snapshot stands, it is what is read of its topic
abbrev pub WhatStandsIsRead : Type 0
WhatStandsIsRead = (kept : KeptTopic) (db : Trees) → IsTold kept → Stands kept db → IsWhatIsRead kept (topic_text kept.name) db
