-- A deletion: which topic may be deleted, what is left of it, and the topic that goes on from that.
use Rattle.std.specs.Prelude.{◌≡◌, ◌+◌, ◌^◌, ◌≤◌, Bool, ◌&&◌, ◌==◌, is_none, [], length, None, codes, nat_eq}
use Rattle.std.specs.List.{All, filter, starts_with}
use Rattle.delivery_machine.specs.State.{State, Author, Subscription}
use Rattle.delivery_machine.specs.Producing.{had}
use Rattle.delivery_machine.specs.Snapshot.{Snapshot, snapshot_of, restarted}
use Rattle.delivery_machine.specs.Trimming.{with_authors}

-- nobody is at the topic
abbrev pub IsDeserted : State → Type 0
IsDeserted s = (s.producers ≡ []) × (s.members ≡ [])

-- no dead letter waits to be moved
abbrev pub HasNoLetter : State → Type 0
HasNoLetter s = All (λ (sub : Subscription). sub.dead ≡ []) s.subscriptions

-- it may be deleted: nobody is there, no dead letter waits to be moved, and it had at most 2^62 messages
pub record IsDeletable (s : State) : Type 0 where
  pub deserted : IsDeserted s
  pub letters : HasNoLetter s
  pub count : had s ≤ 2 ^ 62

-- the producer moves dead letters to the topic: its name is never forgotten
abbrev pub moves_letters : Author → Bool
moves_letters a = starts_with nat_eq a.name (codes "dlq/")

-- what is left of a topic that is deleted: its numbers, so that none is given again, and who moved dead letters to it, so that none is moved twice
abbrev pub emptied : Snapshot → Snapshot
emptied kept = record {
  name = kept.name;
  ledger_size = kept.ledger_size;
  ledger = kept.ledger;
  next_ordinal = kept.next_ordinal;
  gone = kept.gone + length kept.log;
  authors = filter moves_letters (with_authors kept.gone kept.log kept.authors);
  retention = None;
  log = [];
  subscriptions = [];
}

-- the topic that is made again under the name
abbrev pub made_again : State → State
made_again s = restarted (emptied (snapshot_of s))

-- nothing is in it: no message, no subscription, and no rule of its own
abbrev pub is_bare : Snapshot → Bool
is_bare kept = length kept.log == 0 && length kept.subscriptions == 0 && is_none kept.retention
