-- The places of messages in the log, as rows show them.
use Rattle.std.proofs.Common.{◌≡◌, ℕ, ◌+◌, ◌<◌, ◌≤◌, suc, Bool, true, false, cond, inl, inr, List, [], ◌∷◌, map, length, pos, Some, refl, ap, sym, ◌∙◌, subst, arith, true≢false}
use Rattle.std.specs.Prelude.{◌||◌, if◌then◌else◌}
use Rattle.std.specs.List.{AllByRecursion, list_any, slice_get}
use Rattle.std.specs.List.Sorted.{IsStrictlySortedBy}
use Rattle.std.specs.FinSet as set
use Rattle.std.specs.Ordering.{is_eq, nat_cmp}
use Rattle.std.specs.declared.cmp.Ordering.TheVariants.{Less}
use Rattle.std.specs.Cmp.{tied_itself}
use Rattle.std.proofs.lemmas.Option.{get_or_from_slice_get, slice_get_within}
use Rattle.sqlite.specs.declared.types.Value.TheVariants.{Int}
use Rattle.sqlite.specs.declared.types.Value.{Value}
use Rattle.position_core.specs.declared.message.Entry.{Entry}
use Rattle.position_core.specs.declared.position.Position.{Position}
use Rattle.position_core.specs.Position.{position_cmp, positions_total, same_position}
use Rattle.log_pieces.proofs.Searching.{found}
use Rattle.ack_ranges.proofs.Covers.{either, or_first, or_second}
use Rattle.delivery_machine.specs.Places.{positions_at, positions_from}
use Rattle.delivery_machine.specs.WellFormed.{has_message}
use Rattle.delivery_machine.proofs.Messages.{either_way, has_there}
use Rattle.delivery_machine.proofs.Rising.{below_itself}
use Rattle.delivery_machine.proofs.Tended.{position_is}
use Rattle.row_forms.specs.Forms.{index_in}
use Rattle.row_forms.specs.Parts.{IsRising}
use Rattle.row_forms.proofs.PlacesIn.{found_place}

-- ---- the message at a place

pub place_there : (log : List Entry) (place : ℕ) (m : Entry) → IsRising log → slice_get log place ≡ Some m → place ≡ index_in log m.position
place_there log place m rising at =
    found_place log m.position place (sym (found log m.position place m rising at (tied_itself positions_total m.position)))

pub message_there : (log : List Entry) (place : ℕ) (m : Entry) → slice_get log place ≡ Some m → has_message log m.position ≡ true
message_there log place m at =
    has_there log m.position (m, (place, slice_get_within log place m at, get_or_from_slice_get log place m m at), refl)

-- a message of the log stands below its end
pub place_below : (log : List Entry) (p : Position) → has_message log p ≡ true → index_in log p < length log
place_below [] p there = absurd (cc)
place_below (e ∷ log) p there = by (same_position e.position p) there (place_below log p)
  where
    by : (b : Bool) → (b || has_message log p) ≡ true → (has_message log p ≡ true → index_in log p < length log) → (if b then 0 else index_in log p + 1) < length (e ∷ log)
    by true there later = omega arith
    by false there later = let below = later there in omega arith

-- the place that was read is that of the letter, and so below the log's end
pub place_told : (gone : ℕ) (log : List Entry) (p : Position) (place : ℕ) (v : Value) → v ≡ Int (pos (gone + index_in log p)) → v ≡ Int (pos (gone + place)) → index_in log p < length log → length log ≤ place → ⊥
place_told gone log p place v at found below past = let same : gone + place ≡ gone + index_in log p = cc in absurd (omega (arith, same, below, past))

-- messages that stand at one place are one
pub one_place : (log : List Entry) (p q : Position) → has_message log p ≡ true → has_message log q ≡ true → index_in log p ≡ index_in log q → p ≡ q
one_place [] p q here there same = absurd (cc)
one_place (e ∷ log) p q here there same = by (same_position e.position p) (same_position e.position q) refl refl here there same (one_place log p q)
  where
    by : (b c : Bool) → same_position e.position p ≡ b → same_position e.position q ≡ c → (b || has_message log p) ≡ true → (c || has_message log q) ≡ true
        → (if b then 0 else index_in log p + 1) ≡ (if c then 0 else index_in log q + 1)
        → (has_message log p ≡ true → has_message log q ≡ true → index_in log p ≡ index_in log q → p ≡ q) → p ≡ q
    by true true is_p is_q here there same later = sym (position_is e.position p is_p) ∙ position_is e.position q is_q
    by true false is_p is_q here there same later = absurd (omega (arith, same))
    by false true is_p is_q here there same later = absurd (omega (arith, same))
    by false false is_p is_q here there same later = let places : index_in log p ≡ index_in log q = omega (arith, same) in later here there places

-- and others stand at other places
pub apart_places : (log : List Entry) (p q : Position) → has_message log p ≡ true → has_message log q ≡ true → same_position p q ≡ false → index_in log p ≡ index_in log q → ⊥
apart_places log p q here there apart same =
    let tied : same_position p q ≡ true = ap (same_position p) (sym (one_place log p q here there same)) ∙ ap is_eq (tied_itself positions_total p) in
    true≢false (sym tied ∙ apart)

-- ---- positions that rise

-- a message of the log comes after what comes before all of it
comes_after : (p q : Position) (log : List Entry) → AllByRecursion (λ x. position_cmp p x ≡ Less) (map (λ (e : Entry). e.position) log) → has_message log q ≡ true → position_cmp p q ≡ Less
comes_after p q [] above there = absurd (cc)
comes_after p q (e ∷ log) above there = by (same_position e.position q) refl there (comes_after p q log above.1)
  where
    by : (b : Bool) → same_position e.position q ≡ b → (b || has_message log q) ≡ true → (has_message log q ≡ true → position_cmp p q ≡ Less) → position_cmp p q ≡ Less
    by true is there later = subst (λ x. position_cmp p x ≡ Less) (position_is e.position q is) above.0
    by false is there later = later there

-- places rise with positions
pub place_rises : (log : List Entry) (p q : Position) → IsRising log → has_message log p ≡ true → has_message log q ≡ true → position_cmp p q ≡ Less → index_in log p < index_in log q
unfolding IsStrictlySortedBy
place_rises [] p q rise here there less = absurd (cc)
place_rises (e ∷ log) p q rise here there less = by (same_position e.position p) (same_position e.position q) refl refl here there (place_rises log p q rise.1)
  where
    before : same_position e.position q ≡ true → has_message log p ≡ true → ⊥
    before is there = below_itself positions_total p (positions_total.trans p q p less (subst (λ x. position_cmp x p ≡ Less) (position_is e.position q is) (comes_after e.position p log rise.0 there)))

    by : (b c : Bool) → same_position e.position p ≡ b → same_position e.position q ≡ c → (b || has_message log p) ≡ true → (c || has_message log q) ≡ true
        → (has_message log p ≡ true → has_message log q ≡ true → position_cmp p q ≡ Less → index_in log p < index_in log q)
        → (if b then 0 else index_in log p + 1) < (if c then 0 else index_in log q + 1)
    by true true is_p is_q here there later = absurd (below_itself positions_total p (subst (λ x. position_cmp p x ≡ Less) (sym (position_is e.position q is_q) ∙ position_is e.position p is_p) less))
    by true false is_p is_q here there later = omega arith
    by false true is_p is_q here there later = absurd (before is_q here)
    by false false is_p is_q here there later = let below = later here there less in omega (arith, below)

-- ---- what is at some places

-- each position at a place of the log is of one of its messages
pub among : (place : ℕ) (p : ℕ → Bool) (log : List Entry) (q : Position) → list_any (same_position q) (positions_from place p log) ≡ true → has_message log q ≡ true
among place p [] q there = cc
among place p (e ∷ log) q there = by (p place) there (among (suc place) p log q)
  where
    by : (b : Bool) → list_any (same_position q) (cond b (e.position ∷ positions_from (suc place) p log) (positions_from (suc place) p log)) ≡ true
        → (list_any (same_position q) (positions_from (suc place) p log) ≡ true → has_message log q ≡ true) → (same_position e.position q || has_message log q) ≡ true
    by false there later = or_second _ _ (later there)
    by true there later = elim (either _ _ there) [
      | inl here ↦ or_first _ _ (either_way e.position q ∙ here)
      | inr rest ↦ or_second _ _ (later rest)
    ]

-- where positions rise, a message is among those at some places where its own place is one of these
listed_at : (place : ℕ) (p : ℕ → Bool) (log : List Entry) (q : Position) → IsRising log → has_message log q ≡ true → list_any (same_position q) (positions_from place p log) ≡ p (place + index_in log q)
unfolding IsStrictlySortedBy
listed_at place p [] q rise there = absurd (cc)
listed_at place p (e ∷ log) q rise there = by (same_position e.position q) refl there (listed_at (suc place) p log q rise.1)
  where
    later_none : same_position e.position q ≡ true → (b : Bool) → list_any (same_position q) (positions_from (suc place) p log) ≡ b → b ≡ false
    later_none is true any =
        let after : position_cmp e.position q ≡ Less = comes_after e.position q log rise.0 (among (suc place) p log q any) in
        absurd (below_itself positions_total q (subst (λ x. position_cmp x q ≡ Less) (position_is e.position q is) after))
    later_none is false any = refl

    here : same_position e.position q ≡ true → (b : Bool) → list_any (same_position q) (cond b (e.position ∷ positions_from (suc place) p log) (positions_from (suc place) p log)) ≡ b
    here is true = or_first _ _ (sym (either_way e.position q) ∙ is)
    here is false = later_none is _ refl

    other : same_position e.position q ≡ false → (b : Bool) → list_any (same_position q) (cond b (e.position ∷ positions_from (suc place) p log) (positions_from (suc place) p log)) ≡ list_any (same_position q) (positions_from (suc place) p log)
    other is true = ap (λ b. b || list_any (same_position q) (positions_from (suc place) p log)) (sym (either_way e.position q) ∙ is)
    other is false = refl

    by : (b : Bool) → same_position e.position q ≡ b → (b || has_message log q) ≡ true
        → (has_message log q ≡ true → list_any (same_position q) (positions_from (suc place) p log) ≡ p (suc place + index_in log q))
        → list_any (same_position q) (cond (p place) (e.position ∷ positions_from (suc place) p log) (positions_from (suc place) p log)) ≡ p (place + (if b then 0 else index_in log q + 1))
    by true is there later = here is (p place) ∙ ap p (omega arith)
    by false is there later = other is (p place) ∙ later there ∙ ap p (omega arith)

pub stands_at_place : (log : List Entry) (places : set.FinSet nat_cmp) (p : Position) → IsRising log → has_message log p ≡ true → set.contains (positions_at log places) p ≡ set.contains places (index_in log p)
stands_at_place log places p rise there =
    set.contains-from_list positions_total (positions_from 0 (set.contains places) log) p
    ∙ listed_at 0 (set.contains places) log p rise there
    ∙ ap (set.contains places) (omega arith)
