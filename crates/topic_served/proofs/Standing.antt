-- The message of a position in a log whose positions rise, and the others.
use Rattle.std.proofs.Common.{◌≡◌, ℕ, ◌<◌, List, [], ◌∷◌, map, Some, false, get_or, inl, inr, ap, ap₂, ◌∙◌, sym, arith}
use Rattle.std.specs.Prelude.{◌≢◌, slice_get}
use Rattle.std.specs.Cmp.{tied_itself}
use Rattle.std.specs.Ordering.{is_eq, ordering_reverse}
use Rattle.std.specs.declared.cmp.Ordering.{Ordering}
use Rattle.std.specs.declared.cmp.Ordering.TheVariants.{Less}
use Rattle.std.proofs.lemmas.Bool.{cases_lt}
use Rattle.std.proofs.lemmas.List.{length-map}
use Rattle.std.proofs.lemmas.List.Quantifiers.{position-Some}
use Rattle.std.proofs.lemmas.Map.Keys.{Less-from_sorted}
use Rattle.std.proofs.lemmas.Option.{slice_get_within, slice_get-get_or, get_or_from_slice_get, same_Some}
use Rattle.std.proofs.Math.ListN.{get_or-map}
use Rattle.position_core.specs.declared.position.Position.{Position}
use Rattle.position_core.specs.declared.message.Entry.{Entry}
use Rattle.position_core.specs.Position.{position_cmp, same_position, positions_total}
use Rattle.log_pieces.specs.Pieces.{index_of, stands_at}
use Rattle.log_pieces.proofs.Searching.{IsRising, found}
use Rattle.delivery_machine.proofs.Tended.{position_is}

-- earlier in the log is less
earlier : (log : List Entry) (i j : ℕ) (d e : Entry) → IsRising log → i < j → slice_get log i ≡ Some d → slice_get log j ≡ Some e → position_cmp d.position e.position ≡ Less
earlier log i j d e rising low at_i at_j =
    let f : Entry → Position = λ e. e.position in
    let a : get_or (map f log) i d.position ≡ d.position = get_or-map f log i d ∙ ap f (get_or_from_slice_get log i d d at_i) in
    let b : get_or (map f log) j d.position ≡ e.position = get_or-map f log j d ∙ ap f (get_or_from_slice_get log j e d at_j) in
    let less = Less-from_sorted position_cmp (map f log) i j d.position rising low (omega (arith, length-map log f, slice_get_within log j e at_j)) in
    sym (ap₂ (λ p q. position_cmp p q) a b) ∙ less

-- what is less is another position, either way
greater_apart : (p q : Position) → position_cmp p q ≡ Less → same_position q p ≡ false
greater_apart p q less = ap (λ (r : Ordering). is_eq r) (positions_total.antisymm q p ∙ ap (λ (r : Ordering). ordering_reverse r) less)

-- the message that stands there
pub stands_there : (log : List Entry) (p : Position) (k : ℕ) → index_of p log ≡ Some k → (e : Entry) × (slice_get log k ≡ Some e) × (e.position ≡ p)
stands_there [] p k stands = cc
stands_there (x ∷ log) p k stands =
    let is = position-Some (stands_at p) (x ∷ log) k x stands in
    (get_or (x ∷ log) k x, slice_get-get_or (x ∷ log) k x is.0, position_is (get_or (x ∷ log) k x).position p is.1)

pub has_position_there : (log : List Entry) (p : Position) (k : ℕ) (e : Entry) → index_of p log ≡ Some k → slice_get log k ≡ Some e → e.position ≡ p
has_position_there log p k e stands at =
    let here = stands_there log p k stands in
    ap (λ (x : Entry). x.position) (same_Some e here.0 (sym at ∙ here.1)) ∙ here.2

-- each other message has another position
pub apart : (log : List Entry) (p : Position) (k : ℕ) → IsRising log → index_of p log ≡ Some k → (j : ℕ) (x : Entry) → j ≢ k → slice_get log j ≡ Some x → same_position x.position p ≡ false
apart log p k rising stands j x other at = elim (cases_lt j k) [
  | inl before ↦
      let is = position-Some (stands_at p) log k x stands in
      ap (λ (y : Entry). same_position y.position p) (sym (get_or_from_slice_get log j x x at)) ∙ is.2 j before
  | inr not_before ↦ elim (cases_lt k j) [
    | inl after ↦
        let here = stands_there log p k stands in
        ap (λ (q : Position). same_position x.position q) (sym here.2)
        ∙ greater_apart here.0.position x.position (earlier log k j here.0 x rising after here.1 at)
    | inr not_after ↦ absurd (other (omega arith))
  ]
]

-- a message stands where its position does
pub index_there : (log : List Entry) (k : ℕ) (e : Entry) → IsRising log → slice_get log k ≡ Some e → index_of e.position log ≡ Some k
index_there log k e rising at = sym (found log e.position k e rising at (tied_itself positions_total e.position))
