-- What is kept of a topic is the machine's snapshot of it.
use Rattle.std.proofs.Common.{◌≡◌, ℕ, ◌≤◌, List, [], ◌∷◌, map, length, Option, refl, sym, ap, subst}
use Rattle.std.proofs.lemmas.List.Elements.{All-map, All-weaker}
use Rattle.position_core.specs.declared.message.Entry.{Entry}
use Rattle.delivery_machine.specs.State.{Author}
use Rattle.delivery_machine.specs.declared.retention.Retention.{Retention}
use Rattle.delivery_machine.specs.Snapshot.{KeptSubscription, Snapshot, snapshot_of}
use Rattle.delivery_machine.specs.Snapshot as machine
use Rattle.delivery_machine.specs.Places.{AreBelow, KeptPlaces, KeptTopic, MayRestart, kept_in, snapshot_in}
use Rattle.delivery_machine.specs.WellFormed.{IsSound}
use Rattle.delivery_machine.specs.Laws.{IsReached}
use Rattle.machine_laws.proofs.ReachedOn.{reached_sound}
use Rattle.topic_subscriptions.specs.Placed.{IsPlacedIn, Placed, kept_of, sub_in}
use Rattle.topic_parts.specs.declared.parts.Parts.{Parts}
use Rattle.topic_parts.specs.Parts.{AreTied, log_of, state_of}

abbrev pub topic_kept : Parts → KeptTopic
topic_kept t = record {
  name = t.name;
  ledger_size = t.log.log.ledger_size;
  ledger = t.log.log.ledger;
  next_ordinal = t.next_ordinal;
  gone = t.log.gone;
  authors = t.log.authors;
  retention = t.log.retention;
  log = log_of t;
  subscriptions = map kept_of t.subscriptions.items;
}

each_kept : (log : List Entry) (subs : List Placed) → map (kept_in log) (map kept_of subs) ≡ map machine.kept_of (map (sub_in log) subs)
each_kept log [] = refl
each_kept log (p ∷ subs) = ap (λ (ks : List KeptSubscription). machine.kept_of (sub_in log p) ∷ ks) (each_kept log subs)

pub snapshot_is : (t : Parts) → snapshot_in (topic_kept t) ≡ snapshot_of (state_of t)
snapshot_is t = ap (λ (ks : List KeptSubscription). record (snapshot_of (state_of t)) { subscriptions = ks }) (each_kept (log_of t) t.subscriptions.items)

pub may_restart : (t : Parts) → IsReached (state_of t) → AreTied t → length (log_of t) ≤ 1048576 → MayRestart (topic_kept t)
may_restart t reached tied short = record {
  sound = subst (λ (k : Snapshot). IsSound k) (sym (snapshot_is t)) (reached_sound (state_of t) reached);
  short = short;
  within = All-map (λ (k : KeptPlaces). AreBelow (length (log_of t)) k.acknowledged) kept_of t.subscriptions.items
      (All-weaker (IsPlacedIn (log_of t) t.members.members) (λ (p : Placed). AreBelow (length (log_of t)) p.places) (λ p placed. placed.within) t.subscriptions.items tied);
}

pub kept_same : (t : Parts) (name : _) (size ledger ordinal gone : ℕ) (authors : List Author) (retention : Option Retention) (log : List Entry) (subs : List KeptPlaces) → name ≡ t.name → size ≡ t.log.log.ledger_size → ledger ≡ t.log.log.ledger → ordinal ≡ t.next_ordinal
    → gone ≡ t.log.gone → authors ≡ t.log.authors → retention ≡ t.log.retention → log ≡ log_of t → subs ≡ map kept_of t.subscriptions.items
    → ◌≡◌ {A = KeptTopic} (record { name = name; ledger_size = size; ledger = ledger; next_ordinal = ordinal; gone = gone; authors = authors; retention = retention; log = log; subscriptions = subs }) (topic_kept t)
kept_same t name size ledger ordinal gone authors retention log subs a b c d e f g h i = cc (a, b, c, d, e, f, g, h, i)
