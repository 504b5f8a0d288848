-- The log of a topic with what is known of its producers, and the machine's state that has them.
use Rattle.std.specs.Prelude.{ℕ, ◌≤◌, ◌^◌, List, [], Option, None, length}
use Rattle.std.specs.FinMap as map_of
use Rattle.delivery_machine.specs.State.{State, Author, Producer}
use Rattle.delivery_machine.specs.Trimming.{with_authors}
use Rattle.delivery_machine.specs.WellFormed.{AreAuthors}
use Rattle.delivery_machine.specs.declared.retention.Retention.{Retention}
use Rattle.position_core.specs.declared.message.Entry.{Entry}
use Rattle.entry_log.specs.Log.{Log, empty_log}
use Rattle.dedup_core.specs.Sequences.{Numbers}
use Rattle.topic_log.specs.Names.{AreGaps, is_written}

-- the log of a topic, and who may write to it; `gone` messages stood before those of the log, and `authors` is what is remembered of
-- them; the first `durable` messages of the log are stored
pub record Written : Type 0 where
  pub gone : ℕ
  pub authors : List Author
  pub retention : Option Retention
  pub log : Log
  pub numbers : Numbers
  pub durable : ℕ
  pub producers : List Producer
  pub next_producer : ℕ

-- without messages and producers
abbrev pub blank : ℕ → Written
blank ledger_size = record {
  gone = 0;
  authors = [];
  retention = None;
  log = empty_log ledger_size;
  numbers = map_of.empty;
  durable = 0;
  producers = [];
  next_producer = 1;
}

-- the state with this log and these producers
abbrev pub written_in : Written → State → State
written_in w s = record s {
  ledger_size = w.log.ledger_size;
  ledger = w.log.ledger;
  next_producer = w.next_producer;
  gone = w.gone;
  authors = w.authors;
  retention = w.retention;
  log = w.log.log;
  durable = w.durable;
  producers = w.producers;
}

-- the producers of all messages that the topic ever had
abbrev pub all_of : Written → List Author
all_of w = with_authors w.gone w.log.log w.authors

-- what is stored is of the log, what is remembered is of messages that are gone, and all messages have the automatic names of the numbers
-- below the first, but for the gaps
pub record IsKept (gone : ℕ) (authors : List Author) (log : List Entry) (durable first : ℕ) (gaps : List ℕ) : Type 0 where
  pub stored : durable ≤ length log
  pub room : gone ≤ 2 ^ 62
  pub remembered : AreAuthors gone authors
  pub names : AreGaps (is_written (with_authors gone log authors)) first gaps
