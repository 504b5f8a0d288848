-- A topic may go on from what is left of a deleted one, where a program keeps that by place.
use Rattle.std.proofs.Common.{◌≡◌, ℕ, ◌+◌, ◌≤◌, ◌^◌, List, [], None, length, map, ap, subst, sym, arith}
use Rattle.std.proofs.lemmas.List.Elements.{All-nil}
use Rattle.std.specs.List.{All}
use Rattle.position_core.specs.declared.topic_name.TopicName.{TopicName}
use Rattle.position_core.specs.declared.message.Entry.{Entry}
use Rattle.delivery_machine.specs.State.{Author}
use Rattle.delivery_machine.specs.Snapshot.{Snapshot}
use Rattle.delivery_machine.specs.WellFormed.{IsSound}
use Rattle.delivery_machine.specs.Places.{AreBelow, KeptPlaces, KeptTopic, MayRestart, kept_in, snapshot_in}
use Rattle.topic_lives.specs.Deleting.{emptied}
use Rattle.topic_lives.proofs.MadeAgain.{emptied_sound}

-- part by part
abbrev pub parts_of : TopicName → ℕ → ℕ → ℕ → ℕ → List Author → List Entry → List KeptPlaces → KeptTopic
parts_of name ledger_size ledger next_ordinal gone authors log subscriptions = record {
  name = name;
  ledger_size = ledger_size;
  ledger = ledger;
  next_ordinal = next_ordinal;
  gone = gone;
  authors = authors;
  retention = None;
  log = log;
  subscriptions = subscriptions;
}

pub is_left : (kept : KeptTopic) (name : TopicName) (ledger_size ledger next_ordinal gone : ℕ) (authors : List Author) (log : List Entry) (subscriptions : List KeptPlaces)
    → name ≡ kept.name → ledger_size ≡ kept.ledger_size → ledger ≡ kept.ledger → next_ordinal ≡ kept.next_ordinal → gone ≡ kept.gone + length kept.log
    → authors ≡ (emptied (snapshot_in kept)).authors → log ≡ [] → subscriptions ≡ []
    → snapshot_in (parts_of name ledger_size ledger next_ordinal gone authors log subscriptions) ≡ emptied (snapshot_in kept)
is_left kept name ledger_size ledger next_ordinal gone authors log subscriptions e1 e2 e3 e4 e5 e6 e7 e8 =
    let none : map (kept_in log) subscriptions ≡ [] = ap (map (kept_in log)) e8 in
    cc

pub may_go_on : (kept left : KeptTopic) → MayRestart kept → kept.gone + length kept.log ≤ 2 ^ 62 → snapshot_in left ≡ emptied (snapshot_in kept) → left.subscriptions ≡ [] → MayRestart left
may_go_on kept left may few is none = record {
  sound = subst IsSound (sym is) (emptied_sound (snapshot_in kept) may.sound few);
  short = let empty : length left.log ≡ 0 = ap (λ (s : Snapshot). length s.log) is in omega (arith, empty);
  within = subst (All (λ (sub : KeptPlaces). AreBelow (length left.log) sub.acknowledged)) (sym none) (All-nil (λ (sub : KeptPlaces). AreBelow (length left.log) sub.acknowledged));
}
