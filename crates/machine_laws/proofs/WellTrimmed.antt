-- Where the first messages go, what is well kept stays so.
use Rattle.std.proofs.Common.{◌≡◌, ℕ, ◌-◌, ◌<◌, List, [], ◌∷◌, map, length-drop, Some, None, Option, true, false, refl, ap, ◌∙◌, sym, subst, arith, true≢false}
use Rattle.std.specs.Prelude.{◌&&◌, not, drop, take}
use Rattle.std.specs.List.{AllByRecursion, find, list_any}
use Rattle.std.specs.Option.{option_map_or}
use Rattle.std.specs.FinSet as set
use Rattle.std.specs.FinMap as map_of
use Rattle.std.proofs.lemmas.List.Elements.{recursion_from_All, All-from_recursion}
use Rattle.position_core.specs.declared.position.Position.{Position}
use Rattle.position_core.specs.declared.message.Entry.{Entry}
use Rattle.position_core.specs.declared.held.Held.{Held}
use Rattle.position_core.specs.Position.{same_position}
use Rattle.delivery_machine.specs.State.{State, Subscription, DeadLetter}
use Rattle.delivery_machine.specs.Words.{is_named, is_held_by, has_position}
use Rattle.delivery_machine.specs.Acknowledging.{is_one_of}
use Rattle.delivery_machine.specs.Trimming.{is_done_with, without_messages, trimmed}
use Rattle.delivery_machine.specs.WellFormed.{has_message}
use Rattle.delivery_machine.proofs.Deciding.{or_false, and_first, and_second, turned}
use Rattle.delivery_machine.proofs.Firsts.{any_mapped, found_mapped}
use Rattle.delivery_machine.proofs.Messages.{either_way}
use Rattle.delivery_machine.proofs.Rising.{all_dropped}
use Rattle.delivery_machine.proofs.Tending.{got_retained}
use Rattle.machine_laws.proofs.Named.{named_mapped}
use Rattle.machine_laws.proofs.Ordinals.{among_mapped, once_fewer}
use Rattle.machine_laws.proofs.Seated.{all_there}
use Rattle.machine_laws.proofs.Uncollected.{holds_in, holds_mapped}
use Rattle.machine_laws.proofs.Formed.{IsFormed}
use Rattle.machine_laws.proofs.WellKept.{IsWellKept, letters, names_of}
use Rattle.delivery_machine.proofs.Remembered.{authors_trimmed}
use Rattle.delivery_machine.proofs.Trimmed.{IsGoing, NonePending, stays, elsewhere, all_weaker, done_pending, done_dead, positions_gone, acknowledged_without, none_among, stays_visible, contains_stays}

-- each dead letter is of a message that stays
dead_stay : (n : ℕ) (log : List Entry) (dead : List DeadLetter) → AllByRecursion (λ e. list_any (λ d. same_position d.position e.position) dead ≡ false) (take n log)
    → AllByRecursion (λ d. has_message log d.position ≡ true) dead → AllByRecursion (λ d. has_message (drop n log) d.position ≡ true) dead
dead_stay n log [] none there = tt
dead_stay n log (d ∷ dead) none there = (
  stays n log d.position (all_weaker (λ e. list_any (λ d. same_position d.position e.position) (d ∷ dead) ≡ false) (λ e. has_position d.position e ≡ false)
      (λ e h. either_way e.position d.position ∙ (or_false (same_position d.position e.position) (list_any (λ d. same_position d.position e.position) dead) h).0) (take n log) none) there.0,
  dead_stay n log dead (all_weaker (λ e. list_any (λ d. same_position d.position e.position) (d ∷ dead) ≡ false) (λ e. list_any (λ d. same_position d.position e.position) dead ≡ false)
      (λ e h. (or_false (same_position d.position e.position) (list_any (λ d. same_position d.position e.position) dead) h).1) (take n log) none) there.1,
)

-- what is none of the messages that go is of a message that stays
message_stays : (n : ℕ) (log : List Entry) (p : Position) → not (is_one_of (positions_gone n log) p) ≡ true → has_message log p ≡ true → has_message (drop n log) p ≡ true
message_stays n log p other there = stays n log p (none_among (take n log) p (turned (is_one_of (positions_gone n log) p) other)) there

formed_trimmed : (n durable : ℕ) (log : List Entry) (sub : Subscription) → AllByRecursion (λ e. is_done_with e sub ≡ true) (take n log) → IsFormed log durable sub
    → IsFormed (drop n log) (durable - n) (without_messages (positions_gone n log) sub)
formed_trimmed n durable log sub done formed = record {
  acknowledged = λ p is.
      let both = sym (acknowledged_without (positions_gone n log) sub p) ∙ is in
      message_stays n log p (and_second (set.contains sub.acknowledged p) _ both) (formed.acknowledged p (and_first (set.contains sub.acknowledged p) _ both));
  visible = λ p h is. stays_visible n durable (durable - n) log p refl (elsewhere (take n log) sub p h is (done_pending (take n log) sub done)) (formed.visible p h is);
  live = λ p h is.
      let lives = formed.live p h is in
      (acknowledged_without (positions_gone n log) sub p ∙ ap (λ b. b && not (is_one_of (positions_gone n log) p)) lives.0, lives.1);
  counted = λ p k is.
      let was = got_retained sub.counts (λ q. not (is_one_of (positions_gone n log) q)) p k is in
      let one = formed.counted p k was.1 in
      record {
        message = message_stays n log p was.0 one.message;
        waits = acknowledged_without (positions_gone n log) sub p ∙ ap (λ b. b && not (is_one_of (positions_gone n log) p)) one.waits;
        lives = one.lives;
        redelivered = one.redelivered;
        most = one.most;
      };
  dead = record {
    messages = All-from_recursion (λ d. has_message (drop n log) d.position ≡ true) sub.dead
        (dead_stay n log sub.dead (done_dead (take n log) sub done) (recursion_from_All (λ d. has_message log d.position ≡ true) sub.dead formed.dead.messages));
    once = formed.dead.once;
    ordinals = formed.dead.ordinals;
  };
  safe = formed.safe;
}

-- what a member has not collected is pending, and so is none of the messages that go
uncollected_elsewhere : (s : State) (n : ℕ) → IsGoing s n → (name : List ℕ) (consumer : ℕ) (p : Position) → holds_in s.subscriptions name consumer p ≡ true → AllByRecursion (λ e. has_position p e ≡ false) (take n s.log)
uncollected_elsewhere s n are name consumer p held = by (find (is_named name) s.subscriptions) refl held
  where
    at : (sub : Subscription) (o : Option Held) → map_of.get sub.pending p ≡ o → is_held_by consumer o ≡ true → NonePending (take n s.log) sub → AllByRecursion (λ e. has_position p e ≡ false) (take n s.log)
    at sub None got held none = absurd (true≢false (sym held))
    at sub (Some h) got held none = elsewhere (take n s.log) sub p h got none

    by : (o : Option Subscription) → find (is_named name) s.subscriptions ≡ o → option_map_or (λ (sub : Subscription). is_held_by consumer (map_of.get sub.pending p)) o false ≡ true → AllByRecursion (λ e. has_position p e ≡ false) (take n s.log)
    by None found held = absurd (true≢false (sym held))
    by (Some sub) found held = at sub (map_of.get sub.pending p) refl held (done_pending (take n s.log) sub (are.done name sub found))

pub well_trimmed : (s : State) (n : ℕ) → IsGoing s n → IsWellKept s → IsWellKept (trimmed n s)
well_trimmed s n are well =
    let f : Subscription → Subscription = without_messages (positions_gone n s.log) in
    record {
      ledgered = record {
        entries = λ some. all_dropped (λ e. e.position.entry < s.ledger_size) n s.log (well.ledgered.entries some);
        last_ledger = well.ledgered.last_ledger;
      };
      gone = are.room;
      authors = authors_trimmed s n are.within well.authors;
      connected = well.connected;
      members = well.members;
      there = all_there (names_of s.members) s.subscriptions (map f s.subscriptions) (λ name at. any_mapped (is_named name) f (λ _. refl) s.subscriptions ∙ at) well.there;
      named = named_mapped f s.subscriptions (λ _. refl) well.named;
      ordinals = once_fewer letters s.next_ordinal s.subscriptions (map f s.subscriptions) (λ k. let same = among_mapped letters k f (λ _. refl) s.subscriptions in omega arith) well.ordinals;
      each = λ name sub found.
          let was = found_mapped (is_named name) f (λ x. refl) s.subscriptions sub found in
          subst (IsFormed (drop n s.log) (s.durable - n)) (sym was.2) (formed_trimmed n s.durable s.log was.0 (are.done name was.0 was.1) (well.each name was.0 was.1));
      uncollected = λ m at d out.
          let one = well.uncollected m at d out in (
            contains_stays n s.log d.message (uncollected_elsewhere s n are m.subscription m.number d.message.position one.1) one.0,
            holds_mapped m.subscription m.number d.message.position f s.subscriptions (λ _. refl) (λ _. refl) ∙ one.1,
          );
    }
