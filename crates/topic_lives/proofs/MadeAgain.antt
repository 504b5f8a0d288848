-- What is left of a deleted topic is sound, and the topic that goes on from it has the couriers' numbers.
use Rattle.std.proofs.Common.{◌≡◌, ℕ, ◌+◌, ◌<◌, ◌≤◌, ◌^◌, min, List, [], map, length, get_or, true, refl, ap, ◌∙◌, sym, arith}
use Rattle.std.specs.Prelude.{codes, nat_eq}
use Rattle.std.specs.List.{IsDistinct, starts_with}
use Rattle.std.specs.List.Sorted.{IsStrictlySortedBy}
use Rattle.std.proofs.lemmas.List.{append-nil}
use Rattle.std.proofs.lemmas.List.Elements.{All-nil}
use Rattle.std.specs.declared.cmp.Ordering.TheVariants.{Less}
use Rattle.std.proofs.lemmas.Bool.Decides.{nat_tests}
use Rattle.position_core.specs.declared.position.Position.{Position}
use Rattle.position_core.specs.declared.message.Entry.{Entry}
use Rattle.position_core.specs.Position.{position_cmp}
use Rattle.delivery_machine.specs.State.{State}
use Rattle.delivery_machine.specs.Snapshot.{Snapshot, snapshot_of}
use Rattle.delivery_machine.specs.Trimming.{with_authors}
use Rattle.delivery_machine.specs.WellFormed.{IsSound, IsSoundSubscription}
use Rattle.delivery_machine.specs.Words.{greatest_under, known, signed_by, used_after}
use Rattle.delivery_machine.specs.Laws.{IsReached}
use Rattle.delivery_machine.proofs.LastNumbers.{known_as_authors}
use Rattle.delivery_machine.proofs.Remembered.{authors_more}
use Rattle.delivery_machine.proofs.Rising.{before_next, is_below, ledgers_below, next_of}
use Rattle.machine_laws.proofs.WellReached.{reached_all}
use Rattle.machine_laws.proofs.ReachedOn.{reached_restarted, reached_sound}
use Rattle.topic_lives.specs.Deleting.{IsDeletable, emptied, made_again, moves_letters}
use Rattle.topic_lives.specs.Laws.{KeepsNumbers}
use Rattle.topic_lives.proofs.Couriers.{authors_filtered, greatest_of_courier}

pub emptied_sound : (kept : Snapshot) → IsSound kept → kept.gone + length kept.log ≤ 2 ^ 62 → IsSound (emptied kept)
unfolding IsStrictlySortedBy IsDistinct
emptied_sound kept sound few = record {
  log = record {
    positions = tt;
    ledgers = All-nil (λ (e : Entry). (e.position.ledger ≤ kept.ledger) × (e.position.ledger ≤ 2 ^ 62));
    entries = λ some. All-nil (λ (e : Entry). e.position.entry < kept.ledger_size);
    last_ledger = sound.log.last_ledger;
  };
  gone = few;
  authors = authors_filtered moves_letters (kept.gone + length kept.log) (with_authors kept.gone kept.log kept.authors) (authors_more kept.gone kept.log kept.authors sound.authors);
  names = tt;
  subscriptions = All-nil (IsSoundSubscription []);
  ordinals = record { distinct = tt; below = All-nil (λ d. d.ordinal < kept.next_ordinal); last_ordinal = sound.ordinals.last_ordinal };
}

-- a run may begin from it
pub made_again_reached : (s : State) → IsReached s → IsDeletable s → IsReached (made_again s)
made_again_reached s at deletable = reached_restarted (emptied (snapshot_of s)) (emptied_sound (snapshot_of s) (reached_sound s at) deletable.count)

-- no courier's number is lost
pub made_again_couriers : (s : State) → IsReached s → (name : List ℕ) → starts_with nat_eq name (codes "dlq/") ≡ true → greatest_under name (known (made_again s)) ≡ greatest_under name (known s)
made_again_couriers s at name lasts =
    let all = with_authors s.gone s.log s.authors in
    ap (greatest_under name) (append-nil (map signed_by (emptied (snapshot_of s)).authors))
    ∙ greatest_of_courier name lasts all
    ∙ sym (known_as_authors name s (reached_sound s at).authors)

-- a position below the next one is in a ledger before those of a topic that goes on
pub later_ledger : (ledger used used' : ℕ) (p : Position) → is_below ledger used p ≡ true → p.ledger ≤ 2 ^ 62 → is_below (min (ledger + 1) (2 ^ 62 + 1)) used' p ≡ true
later_ledger ledger used used' p low room =
    let under = ledgers_below ledger used p low in
    let less : p.ledger + 1 ≤ min (ledger + 1) (2 ^ 62 + 1) = omega (arith, under, room) in
    above (min (ledger + 1) (2 ^ 62 + 1)) less
  where
    above : (l : ℕ) → p.ledger + 1 ≤ l → is_below l used' p ≡ true
    above l less = grind (arith, nat_tests)

-- a message's position is below the next one of the topic that is made again
pub before_next_life : (ledger used used' size : ℕ) (p : Position) → is_below ledger used p ≡ true → p.ledger ≤ 2 ^ 62 → position_cmp p (next_of (min (ledger + 1) (2 ^ 62 + 1)) used' size) ≡ Less
before_next_life ledger used used' size p low room = before_next (min (ledger + 1) (2 ^ 62 + 1)) used' size p (later_ledger ledger used used' p low room)

pub made_again_numbers : (s : State) → IsReached s → KeepsNumbers s (made_again s)
made_again_numbers s at =
    let rising = (reached_all at.0 at.1 at.2 s at.3 at.4).order.kept.rising in
    record {
      had_so_many = omega arith;
      ordinal = refl;
      couriers = made_again_couriers s at;
      later = λ k d low. before_next_life s.ledger (used_after s.ledger s.log) 0 s.ledger_size (get_or s.log k d).position (rising.below k d low) (rising.bounded k d low);
    }
