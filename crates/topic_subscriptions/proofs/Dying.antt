-- A message dies, and a subscription is sought: what that is in the machine's words.
use Rattle.std.proofs.Common.{◌≡◌, ℕ, ◌<◌, ◌≤◌, List, [], ◌∷◌, map, length, take, Some, Bool, true, false, refl, ap, ap₂, ◌∙◌, sym, arith, slice_get, ltb}
use Rattle.std.specs.Prelude.{◌||◌, ◌&&◌, not, is_some, nat_eq, nat_le}
use Rattle.std.specs.List.{filter, list_any}
use Rattle.std.specs.Ordering.{nat_cmp, eq_by_cmp}
use Rattle.std.specs.Cmp.{nat_cmp_total, unsigned_tied}
use Rattle.std.specs.FinSet as set
use Rattle.std.specs.FinMap as map_of
use Rattle.std.proofs.lemmas.Bool.{false≢true, eqb-true, ltb-true}
use Rattle.std.proofs.lemmas.Bool.Decides.{nat_tests}
use Rattle.std.proofs.lemmas.List.Folds.{list_any-append}
use Rattle.std.proofs.lemmas.Map.Views.{any-filter_same}
use Rattle.std.proofs.lemmas.Option.{slice_get_within}
use Rattle.position_core.specs.declared.position.Position.{Position}
use Rattle.position_core.specs.declared.message.Entry.{Entry}
use Rattle.position_core.specs.declared.held.Held.{Held}
use Rattle.position_core.specs.Position.{position_cmp, same_position}
use Rattle.log_pieces.specs.Pieces.{index_of}
use Rattle.delivery_machine.specs.State.{Member, DeadLetter}
use Rattle.delivery_machine.specs.Words.{is_dead}
use Rattle.delivery_machine.specs.Dying.{burying}
use Rattle.delivery_machine.specs.Seeking.{seeking}
use Rattle.delivery_machine.proofs.Deciding.{and_second}
use Rattle.delivery_machine.proofs.Messages.{either_way}
use Rattle.delivery_machine.proofs.Retained.{removed_one}
use Rattle.ack_ranges.specs.Ranges.{below}
use Rattle.ack_ranges.proofs.Covers.{contains_below}
use Rattle.topic_subscriptions.specs.Placed.{IsLiveIn, IsPlacedIn, IsRising, Placed, StandAt, buried_at, is_live_at, sought_to, sub_in}
use Rattle.topic_subscriptions.proofs.Links.{contains_at, first_acknowledged, same_places}
use Rattle.topic_subscriptions.proofs.Changes.{inserted_below, key_left, other_place, stands, still_live, was_live}

-- ---- dying

pub buried_in : (log : List Entry) (p : Placed) (i : ℕ) (letter : DeadLetter) → sub_in log (buried_at i letter p) ≡ burying letter (sub_in log p)
buried_in log p i letter =
    ap₂ (λ (m : map_of.FinMap position_cmp Held) (n : map_of.FinMap position_cmp ℕ). record (burying letter (sub_in log p)) { pending = m; counts = n })
    (removed_one p.pending.pending letter.position) (removed_one p.pending.counts letter.position)

module _ (log : List Entry) (ms : List Member) (i : ℕ) (e : Entry) (letter : DeadLetter) (p : Placed) (rising : IsRising log) (at : slice_get log i ≡ Some e) (is : letter.position ≡ e.position) (placed : IsPlacedIn log ms p) where
  live_now : (k : ℕ) → is_live_at (buried_at i letter p) k ≡ not (set.contains p.places k || (eq_by_cmp nat_cmp k i || set.contains p.buried k))
  live_now k = ap (λ b. not (set.contains p.places k || b)) (set.contains-insert nat_cmp_total p.buried i k)

  other_lives : (q : Position) → IsLiveIn log p q → same_position q letter.position ≡ false → IsLiveIn log (buried_at i letter p) q
  other_lives q l apart =
      still_live log p (buried_at i letter p) q l
      (live_now l.place ∙ ap (λ x. not (set.contains p.places l.place || (x || set.contains p.buried l.place))) (other_place log p i e q rising at l (ap (same_position q) (sym is) ∙ apart)) ∙ l.live)

  died_there : (k : ℕ) (d : Entry) → slice_get log k ≡ Some d → is_dead (sub_in log (buried_at i letter p)) d.position ≡ (is_dead (sub_in log p) d.position || eq_by_cmp nat_cmp k i)
  died_there k d there =
      list_any-append (λ (l : DeadLetter). same_position l.position d.position) p.letters.dead (letter ∷ [])
      ∙ ap (λ b. is_dead (sub_in log p) d.position || (b || false)) (ap (λ (q : Position). same_position q d.position) is ∙ either_way e.position d.position ∙ same_places log k i d e rising there at)
      ∙ ap (λ b. is_dead (sub_in log p) d.position || b) (or_none (eq_by_cmp nat_cmp k i))
    where
      or_none : (b : Bool) → (b || false) ≡ b
      or_none true = refl
      or_none false = refl

  pub buried_placed : IsPlacedIn log ms (buried_at i letter p)
  buried_placed = record {
    within = placed.within;
    buried_within = inserted_below (length log) i p.buried (slice_get_within log i e at) placed.buried_within;
    live = λ k d there.
        ap₂ (λ a b. not a && not b) (contains_at log p.places k d rising there) (died_there k d there)
        ∙ both (set.contains p.places k) (is_dead (sub_in log p) d.position) (eq_by_cmp nat_cmp k i) (set.contains p.buried k) (was_live log ms i e p rising at placed k d there)
        ∙ sym (live_now k);
    line = placed.line;
    pending = λ q key. let left = key_left p.pending.pending letter.position q key in other_lives q (placed.pending q left.0) left.1;
    counted = λ q key. let left = key_left p.pending.counts letter.position q key in other_lives q (placed.counted q left.0) left.1;
  }
    where
      both : (a dead x b : Bool) → (not a && not dead) ≡ not (a || b) → (not a && not (dead || x)) ≡ not (a || (x || b))
      both true dead x b was = refl
      both false true true b was = refl
      both false true false b was = was
      both false false true b was = refl
      both false false false b was = was

-- ---- seeking

pub sought_in : (log : List Entry) (p : Placed) (end : ℕ) (dead : List ℕ) → IsRising log → sub_in log (sought_to end dead p) ≡ seeking (take end log) (sub_in log p)
sought_in log p end dead rising = ap (λ (a : set.FinSet position_cmp). record (sub_in log p) { acknowledged = a; pending = map_of.empty; counts = map_of.empty }) (first_acknowledged log end rising)

-- a place is of the dead ones exactly where its message is dead
pub dead_at : (log : List Entry) → IsRising log → (ls : List DeadLetter) (dead : List ℕ) → StandAt log ls dead → (k : ℕ) (d : Entry) → slice_get log k ≡ Some d → list_any (λ y. nat_eq y k) dead ≡ list_any (λ (l : DeadLetter). same_position l.position d.position) ls
dead_at log rising [] [] stand k d there = refl
dead_at log rising [] (y ∷ ys) stand k d there = cc
dead_at log rising (l ∷ ls) [] stand k d there = cc
dead_at log rising (l ∷ ls) (y ∷ ys) stand k d there =
    let first : index_of l.position log ≡ Some y = cc in
    let rest : map (λ (d : DeadLetter). index_of d.position log) ls ≡ map Some ys = cc in
    let e = stands log l.position y first in
    ap₂ (λ a b. a || b)
    (sym (unsigned_tied y k) ∙ sym (same_places log y k e.0 d rising e.1 there) ∙ ap (λ (q : Position). same_position q d.position) e.2)
    (dead_at log rising ls ys rest k d there)

pub dead_below : (log : List Entry) (ls : List DeadLetter) (dead : List ℕ) → StandAt log ls dead → (k : ℕ) → list_any (λ y. nat_eq y k) dead ≡ true → k < length log
dead_below log [] [] stand k inside = absurd (false≢true inside)
dead_below log [] (y ∷ ys) stand k inside = cc
dead_below log (l ∷ ls) [] stand k inside = cc
dead_below log (l ∷ ls) (y ∷ ys) stand k inside = by (nat_eq y k) refl inside (dead_below log ls ys rest k)
  where
    rest : map (λ (d : DeadLetter). index_of d.position log) ls ≡ map Some ys
    rest = cc

    first : index_of l.position log ≡ Some y
    first = cc

    by : (b : Bool) → nat_eq y k ≡ b → (b || list_any (λ y. nat_eq y k) ys) ≡ true → (list_any (λ y. nat_eq y k) ys ≡ true → k < length log) → k < length log
    by true same inside later = let e = stands log l.position y first in omega (arith, slice_get_within log y e.0 e.1, eqb-true y k same)
    by false differ inside later = later inside

-- what is buried then
buried_then : (end : ℕ) (dead : List ℕ) (k : ℕ) → set.contains (set.from_list {R = nat_cmp} (filter (λ place. nat_le end place) dead)) k ≡ (nat_le end k && list_any (λ y. nat_eq y k) dead)
buried_then end dead k =
    set.contains-from_list_nat (filter (λ place. nat_le end place) dead) k
    ∙ any-filter_same (λ y. nat_eq y k) (λ place. nat_le end place) (nat_le end k) (λ y same. ap (λ (n : ℕ). nat_le end n) (eqb-true y k same)) dead

pub sought_placed : (log : List Entry) (ms : List Member) (p : Placed) (end : ℕ) (dead : List ℕ) → IsRising log → end ≤ length log → StandAt log p.letters.dead dead → IsPlacedIn log ms p → IsPlacedIn log ms (sought_to end dead p)
sought_placed log ms p end dead rising within stand placed = record {
  within = λ k inside. let low = ltb-true k end (sym (contains_below end k) ∙ inside) in omega (arith, low, within);
  buried_within = λ k inside. dead_below log p.letters.dead dead stand k (and_second (nat_le end k) (list_any (λ y. nat_eq y k) dead) (sym (buried_then end dead k) ∙ inside));
  live = λ k d there.
      ap₂ (λ a b. not a && not b) (contains_at log (below end) k d rising there ∙ contains_below end k) (sym (dead_at log rising p.letters.dead dead stand k d there))
      ∙ parts (list_any (λ y. nat_eq y k) dead) k end
      ∙ sym (ap₂ (λ a b. not (a || b)) (contains_below end k) (buried_then end dead k));
  line = placed.line;
  pending = λ q key. absurd (false≢true (sym (ap is_some (map_of.get-empty {X = Held} position_cmp q)) ∙ key));
  counted = λ q key. absurd (false≢true (sym (ap is_some (map_of.get-empty {X = ℕ} position_cmp q)) ∙ key));
}
  where
    parts : (dead : Bool) (k end : ℕ) → (not (ltb k end) && not dead) ≡ not (ltb k end || (nat_le end k && dead))
    parts dead k end = grind (arith, nat_tests)
