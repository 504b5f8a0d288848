-- What a change of a subscription is in the machine's words, and that what is kept of it speaks of the log and of its members still.
use Rattle.std.proofs.Common.{◌≡◌, ℕ, ◌+◌, ◌-◌, ◌<◌, min, List, [], ◌∷◌, length, drop, Some, None, Option, Bool, true, false, cond, get_or, refl, ap, ap₂, ◌∙◌, sym, subst, inl, inr, slice_get}
use Rattle.std.specs.Prelude.{◌⊎◌, ◌||◌, ◌&&◌, not, is_some}
use Rattle.std.specs.List.{list_any}
use Rattle.std.specs.Option.{option_map_or}
use Rattle.std.specs.Ordering.{nat_cmp, eq_by_cmp}
use Rattle.std.specs.FinSet as set
use Rattle.std.specs.FinMap as map_of
use Rattle.std.specs.Cmp.{nat_cmp_total}
use Rattle.std.proofs.lemmas.Bool.{false≢true}
use Rattle.std.proofs.lemmas.List.Quantifiers.{position-Some}
use Rattle.std.proofs.lemmas.Map.Lookups.{exact_unsigned}
use Rattle.std.proofs.lemmas.Map.Views.{tells_apart}
use Rattle.std.proofs.lemmas.Option.{slice_get_within, slice_get-get_or}
use Rattle.position_core.specs.declared.position.Position.{Position}
use Rattle.position_core.specs.declared.message.Entry.{Entry}
use Rattle.position_core.specs.declared.held.Held.{Held}
use Rattle.position_core.specs.Position.{position_cmp, same_position, positions_total}
use Rattle.log_pieces.specs.Pieces.{index_of, stands_at}
use Rattle.delivery_machine.specs.State.{Member, DeadLetter, Subscription}
use Rattle.delivery_machine.specs.Words.{is_dead, is_live}
use Rattle.delivery_machine.specs.Acknowledging.{acknowledging}
use Rattle.delivery_machine.specs.Delivering.{holding}
use Rattle.delivery_machine.specs.Dying.{moving}
use Rattle.delivery_machine.specs.Places.{AreBelow, positions_at}
use Rattle.delivery_machine.specs.Producing.{storing, storing_below}
use Rattle.delivery_machine.specs.Ticking.{redelivering}
use Rattle.delivery_machine.proofs.Deciding.{and_second}
use Rattle.delivery_machine.proofs.Messages.{either_way}
use Rattle.delivery_machine.proofs.Retained.{removed_one}
use Rattle.delivery_machine.proofs.Tended.{position_is}
use Rattle.pending_core.specs.Pending.{Pending, count_at, most_count, released}
use Rattle.pending_core.proofs.Machine.{counted}
use Rattle.dead_core.specs.Letters.{Letters, without_first}
use Rattle.topic_subscriptions.specs.Placed.{IsLiveIn, IsPlacedIn, IsRising, Placed, acknowledged_at, all_safe_in, due_again_at, holding_at, is_live_at, line_at, moved_from, redelivered_at, released_at, safe_below_in, sub_in}
use Rattle.topic_subscriptions.proofs.Links.{contains_at, one_acknowledged, same_places}

-- ---- where a message stands

pub stands : (log : List Entry) (p : Position) (i : ℕ) → index_of p log ≡ Some i → (e : Entry) × (slice_get log i ≡ Some e) × (e.position ≡ p)
stands [] p i is = cc
stands (x ∷ log) p i is =
    let at = position-Some (stands_at p) (x ∷ log) i x is in
    (get_or (x ∷ log) i x, slice_get-get_or (x ∷ log) i x at.0, position_is (get_or (x ∷ log) i x).position p at.1)

pub still_live : (log : List Entry) (p q : Placed) (at : Position) → (l : IsLiveIn log p at) → is_live_at q l.place ≡ true → IsLiveIn log q at
still_live log p q at l live = record { place = l.place; there = l.there; live = live }

-- ---- keys

module _ {X : Type 0} (m : map_of.FinMap position_cmp X) where
  pub key_left : (p q : Position) → map_of.contains_key (map_of.remove m p) q ≡ true → (map_of.contains_key m q ≡ true) × (same_position q p ≡ false)
  key_left p q key = by (same_position q p) refl (sym (ap is_some (map_of.get-remove positions_total m p q)) ∙ key)
    where
      by : (b : Bool) → same_position q p ≡ b → is_some (cond b None (map_of.get m q)) ≡ true → (is_some (map_of.get m q) ≡ true) × (same_position q p ≡ false)
      by true same none = absurd (false≢true none)
      by false differ some = (some, differ)

  pub key_more : (p q : Position) (x : X) → map_of.contains_key (map_of.insert m p x) q ≡ true → (q ≡ p) ⊎ (map_of.contains_key m q ≡ true)
  key_more p q x key = by (same_position q p) refl (sym (ap is_some (map_of.get-insert positions_total m p x q)) ∙ key)
    where
      by : (b : Bool) → same_position q p ≡ b → is_some (cond b (Some x) (map_of.get m q)) ≡ true → (q ≡ p) ⊎ (is_some (map_of.get m q) ≡ true)
      by true same some = inl (position_is q p same)
      by false differ some = inr some

-- ---- what is pending and counted

-- the messages that are pending or counted now are live
pub pending_placed : (log : List Entry) (ms : List Member) (p : Placed) (now : Pending) → ((q : Position) → map_of.contains_key now.pending q ≡ true → IsLiveIn log p q) → ((q : Position) → map_of.contains_key now.counts q ≡ true → IsLiveIn log p q)
    → IsPlacedIn log ms p → IsPlacedIn log ms (record p { pending = now })
pending_placed log ms p now pending counts placed = record {
  within = placed.within;
  buried_within = placed.buried_within;
  live = placed.live;
  line = placed.line;
  pending = λ q key. still_live log p (record p { pending = now }) q (pending q key) (pending q key).live;
  counted = λ q key. still_live log p (record p { pending = now }) q (counts q key) (counts q key).live;
}

pub held_in : (log : List Entry) (p : Placed) (at : Position) (held : Held) → sub_in log (holding_at at held p) ≡ holding at held (sub_in log p)
held_in log p at held = refl

pub held_placed : (log : List Entry) (ms : List Member) (p : Placed) (at : Position) (held : Held) → IsLiveIn log p at → IsPlacedIn log ms p → IsPlacedIn log ms (holding_at at held p)
held_placed log ms p at held live placed = pending_placed log ms p (holding_at at held p).pending more placed.counted placed
  where
    more : (q : Position) → map_of.contains_key (map_of.insert p.pending.pending at held) q ≡ true → IsLiveIn log p q
    more q key = elim (key_more p.pending.pending at q held key) [
      | inl is ↦ subst (λ (x : Position). IsLiveIn log p x) (sym is) live
      | inr old ↦ placed.pending q old
    ]

pub due_again_in : (log : List Entry) (p : Placed) (at : Position) (due : ℕ) (h : Held) → map_of.get p.pending.pending at ≡ Some h → sub_in log (due_again_at at due p) ≡ holding at (record { consumer = h.consumer; due = Some due }) (sub_in log p)
due_again_in log p at due h is = ap (λ (o : Option Held). sub_in log (record p { pending = option_map_or (λ held. (holding_at at (record held { due = Some due }) p).pending) o p.pending })) is

pub due_again_placed : (log : List Entry) (ms : List Member) (p : Placed) (at : Position) (due : ℕ) → IsPlacedIn log ms p → IsPlacedIn log ms (due_again_at at due p)
due_again_placed log ms p at due placed = by (map_of.get p.pending.pending at) refl
  where
    by : (o : Option Held) → map_of.get p.pending.pending at ≡ o → IsPlacedIn log ms (record p { pending = option_map_or (λ held. (holding_at at (record held { due = Some due }) p).pending) o p.pending })
    by None free = placed
    by (Some h) held = held_placed log ms p at (record h { due = Some due }) (placed.pending at (ap is_some held)) placed

pub released_in : (log : List Entry) (p : Placed) (at : Position) → sub_in log (released_at at p) ≡ record (sub_in log p) { pending = map_of.remove p.pending.pending at }
released_in log p at = refl

pub released_placed : (log : List Entry) (ms : List Member) (p : Placed) (at : Position) → IsPlacedIn log ms p → IsPlacedIn log ms (released_at at p)
released_placed log ms p at placed = pending_placed log ms p (released at p.pending) (λ q key. placed.pending q (key_left p.pending.pending at q key).0) placed.counted placed

pub redelivered_in : (log : List Entry) (p : Placed) (at : Position) → map_of.contains_key p.pending.pending at ≡ true → sub_in log (redelivered_at at p) ≡ redelivering (at ∷ []) (sub_in log p)
redelivered_in log p at pending =
    let now = counted p.pending (sub_in log p) at pending (refl, refl) in
    ap₂ (λ (m : map_of.FinMap position_cmp Held) (n : map_of.FinMap position_cmp ℕ). record (sub_in log p) { pending = m; counts = n }) (sym now.0) (sym now.1)

pub redelivered_placed : (log : List Entry) (ms : List Member) (p : Placed) (at : Position) → map_of.contains_key p.pending.pending at ≡ true → IsPlacedIn log ms p → IsPlacedIn log ms (redelivered_at at p)
redelivered_placed log ms p at held placed =
    subst (λ (n : Pending). IsPlacedIn log ms (record p { pending = released at n })) (sym (ap (λ b. cond b more p.pending) held))
    (pending_placed log ms p (released at more) (λ q key. placed.pending q (key_left p.pending.pending at q key).0) counts placed)
  where
    more : Pending
    more = record p.pending { counts = map_of.insert p.pending.counts at (min (count_at p.pending at + 1) most_count) }

    counts : (q : Position) → map_of.contains_key (map_of.insert p.pending.counts at (min (count_at p.pending at + 1) most_count)) q ≡ true → IsLiveIn log p q
    counts q key = elim (key_more p.pending.counts at q (min (count_at p.pending at + 1) most_count) key) [
      | inl is ↦ subst (λ (x : Position). IsLiveIn log p x) (sym is) (placed.pending at held)
      | inr old ↦ placed.counted q old
    ]

-- ---- a message leaves

-- the place of another message is another
pub other_place : (log : List Entry) (p : Placed) (i : ℕ) (e : Entry) (q : Position) → IsRising log → slice_get log i ≡ Some e → (l : IsLiveIn log p q) → same_position q e.position ≡ false → eq_by_cmp nat_cmp l.place i ≡ false
other_place log p i e q rising at l apart =
    let d = stands log q l.place l.there in
    sym (same_places log l.place i d.0 e rising d.1 at) ∙ ap (λ (x : Position). same_position x e.position) d.2 ∙ apart

pub inserted_below : (end i : ℕ) (s : set.FinSet nat_cmp) → i < end → AreBelow end s → AreBelow end (set.insert s i)
inserted_below end i s low within k inside = by (eq_by_cmp nat_cmp k i) refl
  where
    by : (b : Bool) → eq_by_cmp nat_cmp k i ≡ b → k < end
    by true same = subst (λ (n : ℕ). n < end) (sym (tells_apart {R = nat_cmp} exact_unsigned k i same)) low
    by false differ = within k (sym (set.contains-insert nat_cmp_total s i k ∙ ap (λ b. b || set.contains s k) differ) ∙ inside)

pub removed_below : (end i : ℕ) (s : set.FinSet nat_cmp) → AreBelow end s → AreBelow end (set.remove s i)
removed_below end i s within k inside = within k (and_second (not (eq_by_cmp nat_cmp k i)) (set.contains s k) (sym (set.contains-remove nat_cmp_total s i k) ∙ inside))

pub acknowledged_in : (log : List Entry) (i : ℕ) (e : Entry) (p : Placed) → IsRising log → slice_get log i ≡ Some e → sub_in log (acknowledged_at i e.position p) ≡ acknowledging (e.position ∷ []) (sub_in log p)
acknowledged_in log i e p rising at =
    ap (λ (a : set.FinSet position_cmp). record (sub_in log p) { acknowledged = a; pending = map_of.remove p.pending.pending e.position; counts = map_of.remove p.pending.counts e.position }) (one_acknowledged log p.places i e rising at)
    ∙ ap₂ (λ (m : map_of.FinMap position_cmp Held) (n : map_of.FinMap position_cmp ℕ). record (acknowledging (e.position ∷ []) (sub_in log p)) { pending = m; counts = n }) (removed_one p.pending.pending e.position) (removed_one p.pending.counts e.position)

module _ (log : List Entry) (ms : List Member) (i : ℕ) (e : Entry) (p : Placed) (rising : IsRising log) (at : slice_get log i ≡ Some e) (placed : IsPlacedIn log ms p) where
  -- whether a message is acknowledged now
  places_now : (k : ℕ) → is_live_at (acknowledged_at i e.position p) k ≡ not ((eq_by_cmp nat_cmp k i || set.contains p.places k) || (not (eq_by_cmp nat_cmp k i) && set.contains p.buried k))
  places_now k = ap₂ (λ a b. not (a || b)) (set.contains-insert nat_cmp_total p.places i k) (set.contains-remove nat_cmp_total p.buried i k)

  -- it is live still, if it is another
  other_live : (q : Position) → IsLiveIn log p q → same_position q e.position ≡ false → IsLiveIn log (acknowledged_at i e.position p) q
  other_live q l apart =
      still_live log p (acknowledged_at i e.position p) q l
      (places_now l.place ∙ ap (λ x. not ((x || set.contains p.places l.place) || (not x && set.contains p.buried l.place))) (other_place log p i e q rising at l apart) ∙ l.live)

  pub was_live : (k : ℕ) (d : Entry) → slice_get log k ≡ Some d → (not (set.contains p.places k) && not (is_dead (sub_in log p) d.position)) ≡ is_live_at p k
  was_live k d there = ap (λ b. not b && not (is_dead (sub_in log p) d.position)) (sym (contains_at log p.places k d rising there)) ∙ placed.live k d there

  -- with these letters, where a message that is another is dead as before
  live_with : (letters : Letters) → ((k : ℕ) (d : Entry) → slice_get log k ≡ Some d → eq_by_cmp nat_cmp k i ≡ false → list_any (λ (l : DeadLetter). same_position l.position d.position) letters.dead ≡ is_dead (sub_in log p) d.position)
      → (k : ℕ) (d : Entry) → slice_get log k ≡ Some d → is_live (sub_in log (record (acknowledged_at i e.position p) { letters = letters })) d ≡ is_live_at (acknowledged_at i e.position p) k
  live_with letters same k d there =
      ap (λ b. not b && not dead) (contains_at log (set.insert p.places i) k d rising there ∙ set.contains-insert nat_cmp_total p.places i k)
      ∙ by (eq_by_cmp nat_cmp k i) refl
      ∙ sym (places_now k)
    where
      dead : Bool
      dead = list_any (λ (l : DeadLetter). same_position l.position d.position) letters.dead

      by : (x : Bool) → eq_by_cmp nat_cmp k i ≡ x → (not (eq_by_cmp nat_cmp k i || set.contains p.places k) && not (list_any (λ (l : DeadLetter). same_position l.position d.position) letters.dead)) ≡ not ((eq_by_cmp nat_cmp k i || set.contains p.places k) || (not (eq_by_cmp nat_cmp k i) && set.contains p.buried k))
      by true is =
          ap (λ y. not (y || set.contains p.places k) && not (list_any (λ (l : DeadLetter). same_position l.position d.position) letters.dead)) is
          ∙ sym (ap (λ y. not ((y || set.contains p.places k) || (not y && set.contains p.buried k))) is)
      by false is =
          ap₂ (λ y z. not (y || set.contains p.places k) && not z) is (same k d there is)
          ∙ was_live k d there
          ∙ sym (ap (λ y. not ((y || set.contains p.places k) || (not y && set.contains p.buried k))) is)

  placed_with : (letters : Letters) → ((k : ℕ) (d : Entry) → slice_get log k ≡ Some d → is_live (sub_in log (record (acknowledged_at i e.position p) { letters = letters })) d ≡ is_live_at (acknowledged_at i e.position p) k)
      → IsPlacedIn log ms (record (acknowledged_at i e.position p) { letters = letters })
  placed_with letters live = record {
    within = inserted_below (length log) i p.places (slice_get_within log i e at) placed.within;
    buried_within = removed_below (length log) i p.buried placed.buried_within;
    live = live;
    line = placed.line;
    pending = λ q key.
        let left = key_left p.pending.pending e.position q key in
        let l = other_live q (placed.pending q left.0) left.1 in
        still_live log (acknowledged_at i e.position p) (record (acknowledged_at i e.position p) { letters = letters }) q l l.live;
    counted = λ q key.
        let left = key_left p.pending.counts e.position q key in
        let l = other_live q (placed.counted q left.0) left.1 in
        still_live log (acknowledged_at i e.position p) (record (acknowledged_at i e.position p) { letters = letters }) q l l.live;
  }

  pub acknowledged_placed : IsPlacedIn log ms (acknowledged_at i e.position p)
  acknowledged_placed = placed_with p.letters (live_with p.letters (λ k d there apart. refl))

  -- ---- a dead message is moved

  pub moved_in : (letter : DeadLetter) → letter.position ≡ e.position → sub_in log (moved_from i e.position p) ≡ moving letter (sub_in log p)
  moved_in letter is =
      ap (λ (s : Subscription). record s { dead = drop 1 p.letters.dead; safe = p.letters.safe - 1 }) (acknowledged_in log i e p rising at)
      ∙ ap (λ (q : Position). record (acknowledging (q ∷ []) (sub_in log p)) { dead = drop 1 p.letters.dead; safe = p.letters.safe - 1 }) (sym is)

  pub moved_placed : (letter : DeadLetter) → letter.position ≡ e.position → slice_get p.letters.dead 0 ≡ Some letter → IsPlacedIn log ms (moved_from i e.position p)
  moved_placed letter is first = placed_with (without_first p.letters) (live_with (without_first p.letters) same)
    where
      same : (k : ℕ) (d : Entry) → slice_get log k ≡ Some d → eq_by_cmp nat_cmp k i ≡ false → list_any (λ (l : DeadLetter). same_position l.position d.position) (drop 1 p.letters.dead) ≡ is_dead (sub_in log p) d.position
      same k d there apart = by p.letters.dead first
        where
          by : (ls : List DeadLetter) → slice_get ls 0 ≡ Some letter → list_any (λ (l : DeadLetter). same_position l.position d.position) (drop 1 ls) ≡ list_any (λ (l : DeadLetter). same_position l.position d.position) ls
          by [] none = cc
          by (l ∷ ls) some =
              let it : l ≡ letter = cc in
              let other : same_position l.position d.position ≡ false = ap (λ (x : DeadLetter). same_position x.position d.position) it ∙ ap (λ (q : Position). same_position q d.position) is ∙ either_way e.position d.position ∙ same_places log k i d e rising there at ∙ apart in
              sym (ap (λ b. b || list_any (λ (l : DeadLetter). same_position l.position d.position) ls) other)

-- ---- what is stored, and who is there

-- with the letters of the same messages
letters_placed : (log : List Entry) (ms : List Member) (p : Placed) (letters : Letters) → letters.dead ≡ p.letters.dead → IsPlacedIn log ms p → IsPlacedIn log ms (record p { letters = letters })
letters_placed log ms p letters same placed = record {
  within = placed.within;
  buried_within = placed.buried_within;
  live = λ k e at. ap (λ (ls : List DeadLetter). not (set.contains (positions_at log p.places) e.position) && not (list_any (λ (l : DeadLetter). same_position l.position e.position) ls)) same ∙ placed.live k e at;
  line = placed.line;
  pending = λ q key. still_live log p (record p { letters = letters }) q (placed.pending q key) (placed.pending q key).live;
  counted = λ q key. still_live log p (record p { letters = letters }) q (placed.counted q key) (placed.counted q key).live;
}

pub stored_in : (log : List Entry) (p : Placed) → sub_in log (all_safe_in p) ≡ storing (sub_in log p)
stored_in log p = refl

pub stored_placed : (log : List Entry) (ms : List Member) (p : Placed) → IsPlacedIn log ms p → IsPlacedIn log ms (all_safe_in p)
stored_placed log ms p placed = letters_placed log ms p (all_safe_in p).letters refl placed

pub stored_below_in : (log : List Entry) (p : Placed) (ordinal : ℕ) → sub_in log (safe_below_in ordinal p) ≡ storing_below ordinal (sub_in log p)
stored_below_in log p ordinal = refl

pub stored_below_placed : (log : List Entry) (ms : List Member) (p : Placed) (ordinal : ℕ) → IsPlacedIn log ms p → IsPlacedIn log ms (safe_below_in ordinal p)
stored_below_placed log ms p ordinal placed = letters_placed log ms p (safe_below_in ordinal p).letters refl placed

-- where the members change and those of the subscription stay
pub placed_beside : (log : List Entry) (before after : List Member) (p : Placed) → line_at p.name after ≡ line_at p.name before → IsPlacedIn log before p → IsPlacedIn log after p
placed_beside log before after p same placed = record {
  within = placed.within;
  buried_within = placed.buried_within;
  live = placed.live;
  line = placed.line ∙ sym same;
  pending = placed.pending;
  counted = placed.counted;
}
