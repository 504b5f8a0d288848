-- What stands in a database: the rows of topics.
use Rattle.std.specs.Prelude.{◌≢◌, ℕ, List, IsPermutation}
use Rattle.std.specs.List.{AllByRecursion}
use Rattle.position_core.specs.TopicName.{topic_text}
use Rattle.sqlite.specs.Tree.{Trees}
use Rattle.sqlite.specs.Order.{Row}
use Rattle.delivery_machine.specs.Places.{KeptTopic}
use Rattle.row_forms.specs.Cells.{TOPIC, ENTRY, SUB, ACK, DEAD, REDELIVERY, AUTHOR, RETENTION, bodies, of_topic}
use Rattle.row_forms.specs.Forms.{TopicRows, AreRowsOf, no_rows}

-- the rows of the topic in the table are these, in any order
abbrev pub HasIn : ℕ → List ℕ → List Row → Trees → Type 0
HasIn tree topic rows db = IsPermutation rows (of_topic topic (bodies tree (db tree)))

-- the topic's rows are these
pub record Has (topic : List ℕ) (rows : TopicRows) (db : Trees) : Type 0 where
  pub topics : HasIn TOPIC topic rows.topics db
  pub entries : HasIn ENTRY topic rows.entries db
  pub subs : HasIn SUB topic rows.subs db
  pub acks : HasIn ACK topic rows.acks db
  pub deads : HasIn DEAD topic rows.deads db
  pub counts : HasIn REDELIVERY topic rows.counts db
  pub authors : HasIn AUTHOR topic rows.authors db
  pub retentions : HasIn RETENTION topic rows.retentions db

-- the topic's rows are those of what is kept of it
abbrev pub Stands : KeptTopic → Trees → Type 0
Stands kept db = (rows : TopicRows) × AreRowsOf kept rows × Has (topic_text kept.name) rows db

-- no row is the topic's
abbrev pub HasNone : List ℕ → Trees → Type 0
HasNone topic db = Has topic no_rows db

-- the topic's rows in the table are the same in both
abbrev pub SameIn : ℕ → List ℕ → Trees → Trees → Type 0
SameIn tree topic old new = IsPermutation (of_topic topic (bodies tree (old tree))) (of_topic topic (bodies tree (new tree)))

-- the topic's rows are the same in both
pub record Same (topic : List ℕ) (old new : Trees) : Type 0 where
  pub topics : SameIn TOPIC topic old new
  pub entries : SameIn ENTRY topic old new
  pub subs : SameIn SUB topic old new
  pub acks : SameIn ACK topic old new
  pub deads : SameIn DEAD topic old new
  pub counts : SameIn REDELIVERY topic old new
  pub authors : SameIn AUTHOR topic old new
  pub retentions : SameIn RETENTION topic old new

-- the rows of all topics but these are the same in both
abbrev pub KeepsOthers : List (List ℕ) → Trees → Trees → Type 0
KeepsOthers topics old new = (topic : List ℕ) → AllByRecursion (λ name. topic ≢ name) topics → Same topic old new
